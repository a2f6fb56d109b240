-- How a run goes from its document to its script, and how it ends.
use Rattle.std.proofs.Common.{◌≡◌, refl, ap, sym, subst, ◌∙◌, ℕ, zero, suc, ◌+◌, ◌-◌, ◌≤◌, ◌<◌, ◌||◌, Bool, true, false, List, [], ◌∷◌, ◌++◌, length, take, ◌⊎◌, inl, inr, Option, Some, None, Result, Ok, Err, IfSome, append_assoc, append-nil, arith, length-append}
use Rattle.std.proofs.lemmas.Bool.{false≢true}
use Rattle.std.specs.Prelude.{if◌then◌else◌, ⊤}
use Rattle.text_scan.specs.declared.line.Line.{Line}
use Rattle.text_scan.specs.Lines.{is_line_feed, has_line_feed, ends_line, whole_lines, split_lines, numbered, lines_of}
use Rattle.text_scan.specs.Stream.{Stream, HasRead}
use Rattle.text_scan.proofs.Splits.{split_append, numbered_append}
use Rattle.outside.specs.Faults.{HasCauseOf}
use Rattle.outside.specs.Told.{Loses}
use Rattle.outside.specs.declared.event.Event.{Event}
use Rattle.outside.proofs.Laws.{stays_same}
use Rattle.text_scan.specs.declared.line.Fault.{Fault}
use Rattle.doc_text.specs.declared.document.Doc.{Doc}
use Rattle.doc_text.specs.Histories.{begins}
use Rattle.session.specs.Courses.{Course, begun, history_by, last_course, no_steps}
use Rattle.session.specs.Standing.{Standing, course_of, doc_of}
use Rattle.doc_text.specs.Documents.{document_of}
use Rattle.session.specs.Written.{Writes, WritesFront}
use Rattle.session.specs.Input.{limit, IsFront, AreFirst, HasLastPiece, HasGiven, HasGivenLine, HasGivenAll, Stops}
use Rattle.session.specs.Script.{is_end_of_document, has_end, before_end, after_end, document_of_lines, made_in, made_from, all_made, has_fault, or_refused, some_refused}
use Rattle.session.specs.Outcome.{answer_of, verdict_of, early_lines}
use Rattle.session.specs.Runs.{StopsWriting, WritesAll, WritesPrefix, WritesFrom, Stands, HasEndInLast, IsWhole, IsEnded, EndsEarly, Judged, Runs}
use Rattle.session.specs.Serving.{HasText, HasReadText, StopsInText, Answers, AnswersPrefix, EndsFirst, HasAnswered, IsAt, ended}
use Rattle.session.specs.declared.status.Status.{Status}
use Rattle.session.specs.declared.status.Status.TheVariants.{Done, BadDocument, SomeRefused, ReadFault, WriteFault, NoMemory, InputLimit, TooLong, BadWords}
use Rattle.session.proofs.Logs.{Made}
use Rattle.session.proofs.Written.{front_all}
use Rattle.session.proofs.Scripts.{has_more, before_none, after_none}
use Rattle.session.proofs.Pieces.{first_given}
use Rattle.session.proofs.Due.{none_due, prefix_due}
use Rattle.session.specs.declared.text.Text.{Text}
use Rattle.session.proofs.Texts.{given_few}

-- ---- the lines of the document and the line after them

pub has_push : (lines : List Line) (last : Line) → is_end_of_document last ≡ true → has_end (lines ++ last ∷ []) ≡ true
has_push [] last e = ap (λ (b : Bool). b || false) e
has_push (line ∷ lines) last e = by_line (is_end_of_document line) (has_push lines last e)
  where
    by_line : (b : Bool) → has_end (lines ++ last ∷ []) ≡ true → (b || has_end (lines ++ last ∷ [])) ≡ true
    by_line true h = refl
    by_line false h = h

before_push : (lines : List Line) (last : Line) → has_end lines ≡ false → is_end_of_document last ≡ true → before_end (lines ++ last ∷ []) ≡ lines
before_push [] last o e = ap (λ (b : Bool). if b then [] else last ∷ []) e
before_push (line ∷ lines) last o e = by_line (is_end_of_document line) o (λ h. before_push lines last h e)
  where
    by_line : (b : Bool) → (b || has_end lines) ≡ false → (has_end lines ≡ false → before_end (lines ++ last ∷ []) ≡ lines) → (if b then [] else line ∷ before_end (lines ++ last ∷ [])) ≡ line ∷ lines
    by_line true o h = absurd (false≢true (sym o))
    by_line false o h = ap (λ (l : List Line). line ∷ l) (h o)

after_push : (lines : List Line) (last : Line) → has_end lines ≡ false → is_end_of_document last ≡ true → after_end (lines ++ last ∷ []) ≡ []
after_push [] last o e = ap (λ (b : Bool). if b then [] else []) e
after_push (line ∷ lines) last o e = by_line (is_end_of_document line) o (λ h. after_push lines last h e)
  where
    by_line : (b : Bool) → (b || has_end lines) ≡ false → (has_end lines ≡ false → after_end (lines ++ last ∷ []) ≡ []) → (if b then lines ++ last ∷ [] else after_end (lines ++ last ∷ [])) ≡ []
    by_line true o h = absurd (false≢true (sym o))
    by_line false o h = h o

-- ---- an input whose document ended just now

pub record IsJust (given lines : List Line) : Type 0 where
  pub before : before_end given ≡ lines
  pub after : after_end given ≡ []

pub just_ended : (lines : List Line) (last : Line) → has_end lines ≡ false → is_end_of_document last ≡ true → IsJust (lines ++ last ∷ []) lines
just_ended lines last o e = record { before = before_push lines last o e; after = after_push lines last o e }

pub just_whole : (lines : List Line) → has_end lines ≡ false → IsJust lines lines
just_whole lines o = record { before = before_none lines o; after = after_none lines o }

module _ (given lines : List Line) (p : IsJust given lines) where
  just_made : all_made given ≡ or_refused (document_of_lines lines) ∷ []
  just_made = ap (λ (l : List Line). made_from (document_of_lines l) (after_end given)) p.before ∙ ap (made_from (document_of_lines lines)) p.after ∙ one_made (document_of_lines lines)
    where
      one_made : (read : Result Doc Fault) → made_from read [] ≡ or_refused read ∷ []
      one_made (Err fault) = refl
      one_made (Ok doc) = refl

  module _ (stats : Bool) (w w' : Option (List ℕ)) (l l' : Option (List Event)) where
    wrote_first : Answers stats w w' l l' 0 (or_refused (document_of_lines lines)) → WritesAll stats w w' l l' given
    wrote_first a = subst (λ (m : List Made). Writes stats w w' l l' 0 m) (sym just_made) a

    wrote_first_part : AnswersPrefix stats w w' l l' 0 (or_refused (document_of_lines lines)) → WritesPrefix stats w w' l l' given
    wrote_first_part a = subst (λ (m : List Made). WritesFront stats w w' l l' 0 m) (sym just_made) a

-- ---- the lines that are whole in the first bytes of a longer input

or_true : (b c : Bool) → c ≡ true → (b || c) ≡ true
or_true true c e = refl
or_true false c e = e

ends_has : (byte : ℕ) (bytes more : List ℕ) → ends_line (byte ∷ bytes) ≡ true → has_line_feed (byte ∷ bytes ++ more) ≡ true
ends_has byte [] more e = ap (λ (b : Bool). b || has_line_feed more) e
ends_has byte (next ∷ bytes) more e = or_true (is_line_feed byte) (has_line_feed (next ∷ bytes ++ more)) (ends_has next bytes more e)

ends_tail : (byte : ℕ) (bytes : List ℕ) → ends_line (byte ∷ bytes) ≡ true → ends_line bytes ≡ true
ends_tail byte [] e = refl
ends_tail byte (next ∷ bytes) e = e

whole_more : (whole more : List ℕ) → ends_line whole ≡ true → whole_lines (whole ++ more) ≡ whole ++ whole_lines more
whole_more [] more e = refl
whole_more (byte ∷ bytes) more e =
    ap (λ (b : Bool). if b then byte ∷ whole_lines (bytes ++ more) else []) (ends_has byte bytes more e)
    ∙ ap (λ (l : List ℕ). byte ∷ l) (whole_more bytes more (ends_tail byte bytes e))

lines_more : (whole more : List ℕ) → ends_line whole ≡ true → lines_of (whole ++ more) ≡ lines_of whole ++ numbered (1 + length (split_lines whole)) (split_lines more)
lines_more whole more e = ap (numbered 1) (split_append whole more e) ∙ numbered_append 1 (split_lines whole) (split_lines more)

take_long : (n : ℕ) (xs ys : List ℕ) → length xs ≤ n → take n (xs ++ ys) ≡ xs ++ take (n - length xs) ys
take_long n [] ys h =
    let same : n ≡ n - 0 = omega arith in
    ap (λ (m : ℕ). take m ys) same
take_long zero (x ∷ xs) ys h = absurd (omega (arith, h))
take_long (suc n) (x ∷ xs) ys h =
    let shorter : length xs ≤ n = omega (arith, h) in
    let same : n - length xs ≡ suc n - suc (length xs) = omega arith in
    ap (λ (l : List ℕ). x ∷ l) (take_long n xs ys shorter ∙ ap (λ (m : ℕ). xs ++ take m ys) same)

-- the lines given before the limit are the first of those that are whole in the first bytes
early_read : (told now bytes : List ℕ) (given : List Line) (stream : Stream) → told ≡ bytes ++ now → length bytes ≤ limit → HasRead bytes given stream → IsFront given (early_lines told)
early_read told now bytes given stream t few r =
    let more = stream.held ++ take (limit - length bytes) now in
    let first : take limit told ≡ r.whole ++ more =
    ap (take limit) t ∙ take_long limit bytes now few ∙ ap (λ (l : List ℕ). l ++ take (limit - length bytes) now) r.split ∙ append_assoc r.whole stream.held (take (limit - length bytes) now) in
    record {
      rest = numbered (1 + length (split_lines r.whole)) (split_lines (whole_lines more));
      parts =
          ap (λ (l : List Line). l ++ numbered (1 + length (split_lines r.whole)) (split_lines (whole_lines more))) r.lines
          ∙ sym (lines_more r.whole (whole_lines more) r.ended)
          ∙ ap lines_of (sym (whole_more r.whole more r.ended))
          ∙ ap (λ (l : List ℕ). lines_of (whole_lines l)) (sym first);
    }

pub early_front : (left left' : Option (List ℕ)) (given : List Line) (stream : Stream) (ended : Bool) → HasGiven left left' given stream ended → IfSome left (λ b. limit < length b → IsFront given (early_lines b))
early_front None left' given stream ended p = tt
early_front (Some told) None given stream ended p = absurd p.taken
early_front (Some told) (Some now) given stream true p =
    λ many. absurd (omega (arith, ap (λ (l : List ℕ). length l) p.taken, length-append p.bytes now, ap (λ (l : List ℕ). length l) (p.spent refl), p.within, many))
early_front (Some told) (Some now) given stream false p = λ many. early_read told now p.bytes given stream p.taken p.within (p.reads refl)

-- ---- how a run ends

-- all lines are the first of all
pub whole_first : (left left' : Option (List ℕ)) (given : List Line) → HasGivenAll left left' given → AreFirst left given
whole_first None left' given p = tt
whole_first (Some told) None given p = absurd p.whole
whole_first (Some told) (Some rest) given p = record { rest = []; parts = append-nil given ∙ p.lines ∙ ap lines_of (sym p.whole.0) }

module _ (left left' : Option (List ℕ)) where
  pub is_whole : (given : List Line) (p : HasGivenAll left left' given) → IsWhole left left' p.bytes given
  is_whole given p = record { few = p.few; whole = p.whole; lines = p.lines }

  ended_or_whole : (taken : List ℕ) (given : List Line) → IsEnded left left' taken given → (has_end given ≡ true) ⊎ IsWhole left left' taken given
  ended_or_whole taken given (inl e) = inl e.0
  ended_or_whole taken given (inr w) = inr w

module _ (stats : Bool) (left left' w w' : Option (List ℕ)) (l l' : Option (List Event)) where
  part_of_all : (given : List Line) → WritesAll stats w w' l l' given → WritesPrefix stats w w' l l' given
  part_of_all given a = front_all stats w w' l l' 0 (all_made given) a

  -- reading stopped
  wanted : (taken : List ℕ) (given : List Line) → Stands stats w w' l l' given → Judged stats left left' w w' l l' taken given NoMemory
  wanted taken given (inl s) = inl s.1
  wanted taken given (inr s) = inr (record { input = inl s.0; output = part_of_all given s.2 })

  stopped : (given : List Line) (status : Status) → Stops left left' given status → Stands stats w w' l l' given → Runs stats left left' w w' l l' status
  stopped given Done s q = absurd s
  stopped given BadDocument s q = absurd s
  stopped given SomeRefused s q = absurd s
  stopped given ReadFault s q = record { taken = s.bytes; given = given; took = s.taken; first = s.first; judged = (s.few, s.lines, q) }
  stopped given WriteFault s q = absurd s
  stopped given NoMemory s q = record { taken = s.bytes; given = given; took = s.taken; first = s.first; judged = wanted s.bytes given q }
  stopped given InputLimit s q = record { taken = s.bytes; given = given; took = s.taken; first = s.first; judged = (s.passed, s.lines, q) }
  stopped given TooLong s q = absurd s
  stopped given BadWords s q = absurd s

  -- the document was refused, or its first layout was not written
  ends_first : (taken : List ℕ) (given lines : List Line) (status : Status) → IsJust given lines → Loses left left' taken → AreFirst left given → IsEnded left left' taken given
      → (WritesPrefix stats w w' l l' given → Judged stats left left' w w' l l' taken given WriteFault)
      → EndsFirst stats w w' l l' (document_of_lines lines) status → Runs stats left left' w w' l l' status
  ends_first taken given lines status j t f e s p = record { taken = taken; given = given; took = t; first = f; judged = judged_first status p }
    where
      judged_first : (status : Status) → EndsFirst stats w w' l l' (document_of_lines lines) status → Judged stats left left' w w' l l' taken given status
      judged_first Done p = absurd p
      judged_first BadDocument p = record { input = e; answer = ap (λ (l : List Line). has_fault (document_of_lines l)) j.before ∙ p.0; output = wrote_first given lines j stats w w' l l' p.1 }
      judged_first SomeRefused p = absurd p
      judged_first ReadFault p = absurd p
      judged_first WriteFault p = s (wrote_first_part given lines j stats w w' l l' p)
      judged_first NoMemory p = inr (record { input = ended_or_whole left left' taken given e; output = wrote_first_part given lines j stats w w' l l' p })
      judged_first InputLimit p = absurd p
      judged_first TooLong p = absurd p
      judged_first BadWords p = absurd p

  -- writing stopped at a line of the script
  pub part_written : (earlier : List Line) (line : Line) (stream : Stream) (ended : Bool) (status : Status) → HasGivenLine left left' earlier line stream ended → has_end earlier ≡ true → StopsWriting status
      → WritesFrom stats w w' l l' earlier (earlier ++ line ∷ []) → Runs stats left left' w w' l l' status
  part_written earlier line stream ended status p e s q =
      record { taken = p.all.bytes; given = earlier ++ line ∷ []; took = p.all.taken; first = first_given left left' (earlier ++ line ∷ []) stream ended p.all; judged = judged_part status s }
    where
      more : has_end (earlier ++ line ∷ []) ≡ true
      more = has_more earlier (line ∷ []) e

      early : EndsEarly stats left left' w w' l l' p.all.bytes (earlier ++ line ∷ [])
      early = record { input = inl more; output = prefix_due stats w w' l l' earlier (earlier ++ line ∷ []) q }

      judged_part : (status : Status) → StopsWriting status → Judged stats left left' w w' l l' p.all.bytes (earlier ++ line ∷ []) status
      judged_part Done s = absurd s
      judged_part BadDocument s = absurd s
      judged_part SomeRefused s = absurd s
      judged_part ReadFault s = absurd s
      judged_part WriteFault s = inl (record { earlier = earlier; line = line; parts = refl; ended = more; last = p.last; output = q })
      judged_part NoMemory s = inr early
      judged_part InputLimit s = absurd s
      judged_part TooLong s = absurd s
      judged_part BadWords s = absurd s

  -- all lines were answered
  judged_all : (bad : Bool) (taken : List ℕ) (given : List Line) → IsWhole left left' taken given → verdict_of given ≡ ended bad → WritesAll stats w w' l l' given → Judged stats left left' w w' l l' taken given (ended bad)
  judged_all true taken given i v q = record { input = i; answer = v; output = q }
  judged_all false taken given i v q = record { input = i; answer = v; output = q }

  all_answered : (bad : Bool) (given : List Line) → HasGivenAll left left' given → verdict_of given ≡ ended bad → WritesAll stats w w' l l' given → Runs stats left left' w w' l l' (ended bad)
  all_answered bad given p v q =
      record { taken = p.bytes; given = given; took = p.taken; first = whole_first left left' given p; judged = judged_all bad p.bytes given (is_whole left left' given p) v q }

-- ---- from the document to the script

unended_front : (first lines : List Line) → IsFront first lines → has_end lines ≡ false → has_end first ≡ false
unended_front first lines f o = by_end (has_end first) refl
  where
    by_end : (b : Bool) → has_end first ≡ b → b ≡ false
    by_end true e = absurd (false≢true (sym o ∙ ap has_end (sym f.parts) ∙ has_more first f.rest e))
    by_end false e = refl

pub end_in_last : (bytes : List ℕ) (lines : List Line) → has_end lines ≡ false → HasLastPiece bytes lines → HasEndInLast bytes
end_in_last bytes lines o p = record { front = p.front; piece = p.piece; split = p.split; short = p.short; unended = unended_front (lines_of (whole_lines p.front)) lines p.before o }

pub stopped_in_text : (stats : Bool) (left left' w : Option (List ℕ)) (l : Option (List Event)) (status : Status) → StopsInText left left' status → Runs stats left left' w w l l status
stopped_in_text stats left left' w l status p = stopped stats left left' w w l l p.given status p.stops (inl (p.unended, record { written = stays_same w; log = stays_same l }))

module _ (stats : Bool) (left left' w w' : Option (List ℕ)) (l l' : Option (List Event)) (stream : Stream) (ended : Bool) (lines : List Line) (o : has_end lines ≡ false) where
  ended_first : (b : Bool) (status : Status) → HasText left left' stream ended lines b → EndsFirst stats w w' l l' (document_of_lines lines) status → Runs stats left left' w w' l l' status
  ended_first true status t p =
      let all = t.given.all in
      ends_first stats left left' w w' l l' all.bytes (lines ++ t.last ∷ []) lines status (just_ended lines t.last o t.end) all.taken
      (first_given left left' (lines ++ t.last ∷ []) stream ended all)
      (inl (has_push lines t.last t.end, early_front left left' (lines ++ t.last ∷ []) stream ended all, end_in_last all.bytes lines o t.given.last))
      (λ q. inl (record { earlier = lines; line = t.last; parts = refl; ended = has_push lines t.last t.end; last = t.given.last; output = none_due stats w w' l l' lines (lines ++ t.last ∷ []) o q })) p
  ended_first false status t p =
      let whole : IsWhole left left' t.bytes lines = is_whole left left' lines t in
      ends_first stats left left' w w' l l' t.bytes lines lines status (just_whole lines o) t.taken (whole_first left left' lines t) (inr whole) (λ q. inr (record { unended = o; input = whole; output = q })) p

  first_answers : (doc : Doc) → document_of_lines lines ≡ Ok doc → Answers stats w w' l l' 0 (Ok doc) → Answers stats w w' l l' 0 (or_refused (document_of_lines lines))
  first_answers doc f a = subst (λ (read : Result Doc Fault). Answers stats w w' l l' 0 (or_refused read)) (sym f) a

  ended_alone : (b : Bool) (doc : Doc) → b ≡ false → HasText left left' stream ended lines b → (document_of_lines lines ≡ Ok doc) × Answers stats w w' l l' 0 (Ok doc) → Runs stats left left' w w' l l' Done
  ended_alone true doc e t p = absurd (false≢true (sym e))
  ended_alone false doc e t p =
      let just : IsJust lines lines = just_whole lines o in
      all_answered stats left left' w w' l l' false lines t
      (ap (λ (l : List Line). answer_of (document_of_lines l) (after_end lines)) just.before ∙ ap (λ (read : Result Doc Fault). answer_of read (after_end lines)) p.0 ∙ ap (answer_of (Ok doc)) just.after)
      (wrote_first lines lines just stats w w' l l' (first_answers doc p.0 p.1))

  ended_at : (b : Bool) (doc : Doc) → b ≡ true → HasText left left' stream ended lines b → (document_of_lines lines ≡ Ok doc) × Answers stats w w' l l' 0 (Ok doc)
      → IsAt stats left left' w w' l l' stream ended (begun doc) 1 false
  ended_at false doc e t p = absurd (false≢true e)
  ended_at true doc e t p =
      let given = lines ++ t.last ∷ [] in
      let just : IsJust given lines = just_ended lines t.last o t.end in
      let nothing : made_in (begins doc) (after_end given) ≡ [] = ap (made_in (begins doc)) just.after in
      let once : all_made given ≡ Ok doc ∷ [] = just_made given lines just ∙ ap (λ (read : Result Doc Fault). or_refused read ∷ []) p.0 in
      record {
        given = given;
        input = t.given.all;
        answered = record {
          laid = record {
            first = doc;
            ended = has_push lines t.last t.end;
            read = ap document_of_lines just.before ∙ p.0;
            now = ap (last_course (begun doc)) (sym just.after);
            count = ap (λ (m : List Made). length m) (sym once);
            refused = ap some_refused (sym nothing);
            few = omega (arith, length-append lines (t.last ∷ []));
          };
          output = wrote_first given lines just stats w w' l l' (first_answers doc p.0 p.1);
        };
      }

module _ (stats : Bool) (left left' w w' : Option (List ℕ)) (l l' : Option (List Event)) (stream : Stream) (ended : Bool) (text : Text) (t : HasReadText left left' stream ended text) where
  read_ok : (doc : Doc) → document_of text.lines text.end ≡ Ok doc → document_of_lines t.given ≡ Ok doc
  read_ok doc f = sym t.same ∙ f

  pub text_refused : (status : Status) → EndsFirst stats w w' l l' (document_of text.lines text.end) status → Runs stats left left' w w' l l' status
  text_refused status p =
      ended_first stats left left' w w' l l' stream ended t.given t.unended text.has_script status t.input (subst (λ (read : Result Doc Fault). EndsFirst stats w w' l l' read status) t.same p)

  pub text_alone : (doc : Doc) → text.has_script ≡ false → (document_of text.lines text.end ≡ Ok doc) × Answers stats w w' l l' 0 (Ok doc) → Runs stats left left' w w' l l' Done
  text_alone doc e p = ended_alone stats left left' w w' l l' stream ended t.given t.unended text.has_script doc e t.input (read_ok doc p.0, p.1)

  course_begun : (engine : Standing) → engine.steps ≡ no_steps → begun (doc_of engine) ≡ course_of engine
  course_begun engine none = λ i. record { history = history_by (sym none i) (doc_of engine); steps = sym none i }

  pub text_at : (engine : Standing) → engine.steps ≡ no_steps → text.has_script ≡ true → (document_of text.lines text.end ≡ Ok (doc_of engine)) × Answers stats w w' l l' 0 (Ok (doc_of engine))
      → IsAt stats left left' w w' l l' stream ended (course_of engine) 1 false
  text_at engine none e p =
      subst (λ (c : Course). IsAt stats left left' w w' l l' stream ended c 1 false) (course_begun engine none)
      (ended_at stats left left' w w' l l' stream ended t.given t.unended text.has_script (doc_of engine) e t.input (read_ok (doc_of engine) p.0, p.1))

pub ruleset starting = (stopped_in_text, text_refused, text_alone, text_at)

-- ---- between two lines of the script

module _ (stats : Bool) (left left' w w' : Option (List ℕ)) (l l' : Option (List Event)) (given : List Line) (c : Course) (k : ℕ) (bad : Bool) (p : HasAnswered stats w w' l l' given c k bad) where
  pub script_stopped : (status : Status) → Stops left left' given status → Runs stats left left' w w' l l' status
  script_stopped status s = stopped stats left left' w w' l l' given status s (inr (p.laid.ended, ap has_fault p.laid.read, p.output))

  pub script_ended : HasGivenAll left left' given → Runs stats left left' w w' l l' (ended bad)
  script_ended q =
      all_answered stats left left' w w' l l' bad given q
      (ap (λ (read : Result Doc Fault). answer_of read (after_end given)) p.laid.read ∙ ap ended (sym p.laid.refused))
      p.output

-- no stop of reading is a fault of writing
not_write_fault : {A : Type 0} (left now : Option (List ℕ)) (given : List Line) (status : Status) → Stops left now given status → status ≡ WriteFault → A
not_write_fault left now given status s e = absurd (subst (Stops left now given) e s)

pub unwritten_stop : (left now : Option (List ℕ)) (given : List Line) (status : Status) (before after : ℕ) → Stops left now given status → before ≤ after → HasCauseOf before after (status ≡ WriteFault)
unwritten_stop left now given status before after s h = record { later = h; cause = λ e. not_write_fault left now given status s e }

-- a run that was answered to its end had no fault
abbrev IsNoFault : Status → Type 0
IsNoFault ReadFault = ⊥
IsNoFault WriteFault = ⊥
IsNoFault status = ⊤

ended_well : (refused : Bool) → IsNoFault (ended refused)
ended_well true = tt
ended_well false = tt

module _ (refused : Bool) (status : Status) (is : status ≡ ended refused) (before after : ℕ) (h : before ≤ after) where
  pub ended_read : HasCauseOf before after (status ≡ ReadFault)
  ended_read = record { later = h; cause = λ e. absurd (subst IsNoFault (sym is ∙ e) (ended_well refused)) }

  pub ended_written : HasCauseOf before after (status ≡ WriteFault)
  ended_written = record { later = h; cause = λ e. absurd (subst IsNoFault (sym is ∙ e) (ended_well refused)) }

pub few_answers : (left now : Option (List ℕ)) (given : List Line) (stream : Stream) (ended : Bool) (k : ℕ) → HasGiven left now given stream ended → k ≤ length given → k ≤ 67108864
few_answers left now given stream ended k p h = omega (arith, given_few left now given stream ended p, h)

pub closer : (left now now' : Option (List ℕ)) (given : List Line) (line : Line) (stream stream' : Stream) (ended ended' : Bool) → HasGiven left now given stream ended → HasGiven left now' (given ++ line ∷ []) stream' ended'
    → limit + 1 - stream'.number < limit + 1 - stream.number
closer left now now' given line stream stream' ended ended' p q =
    omega (arith, p.number, q.number, given_few left now' (given ++ line ∷ []) stream' ended' q, length-append given (line ∷ []))

pub ruleset serving = (script_stopped, script_ended, few_answers, closer)
