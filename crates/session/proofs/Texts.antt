-- The lines of the document, one after another.
use Rattle.std.proofs.Common.{◌≡◌, refl, ap, sym, subst, ◌∙◌, ℕ, suc, ◌+◌, ◌≤◌, ◌||◌, Bool, true, false, List, [], ◌∷◌, ◌++◌, length, Option, Some, None, Ok, arith, append_assoc, append-nil, length-append}
use Rattle.std.proofs.lemmas.Bool.{false≢true}
use Rattle.std.specs.Prelude.{if◌then◌else◌}
use Rattle.text_scan.specs.declared.line.Line.{Line}
use Rattle.text_scan.specs.Lines.{lines_of, split_lines, onto_first, is_line_feed, numbered}
use Rattle.text_scan.specs.Stream.{Stream, empty_stream, lines_ahead}
use Rattle.text_scan.specs.Tokens.{is_skipped}
use Rattle.text_scan.specs.declared.line.Place.{Place}
use Rattle.doc_text.specs.Documents.{document_of}
use Rattle.doc_text.specs.Valid.{IsShort, AreShort}
use Rattle.doc_text.proofs.Short.{short_joined}
use Rattle.session.specs.Input.{limit, HasGiven, HasGivenLine, HasGivenAll, GivesNext}
use Rattle.session.specs.Script.{is_end_of_document, has_end, document_of_lines}
use Rattle.session.specs.Serving.{BeginsNone, HasEnded, HasText, Holds, HasReadText, StopsInText}
use Rattle.session.specs.declared.text.Held.{Held}
use Rattle.session.specs.declared.text.Text.{Text}
use Rattle.session.specs.declared.status.Status.TheVariants.{NoMemory}
use Rattle.session.proofs.Fronts.{skipped_line}
use Rattle.session.proofs.Pieces.{given_none, no_memory}

-- ---- there are not more lines than bytes

onto_first-length : (byte : ℕ) (lines : List (List ℕ)) → length (onto_first byte lines) ≤ 1 + length lines
onto_first-length byte [] = omega arith
onto_first-length byte (line ∷ lines) = omega arith

split_step : (b : Bool) (byte n : ℕ) (lines : List (List ℕ)) → length lines ≤ n → length (if b then [] ∷ lines else onto_first byte lines) ≤ suc n
split_step true byte n lines h = omega arith
split_step false byte n lines h = omega (arith, h, onto_first-length byte lines)

split_lines-length : (bytes : List ℕ) → length (split_lines bytes) ≤ length bytes
split_lines-length [] = omega arith
split_lines-length (byte ∷ bytes) = split_step (is_line_feed byte) byte (length bytes) (split_lines bytes) (split_lines-length bytes)

numbered-length : (number : ℕ) (lines : List (List ℕ)) → length (numbered number lines) ≡ length lines
numbered-length number [] = refl
numbered-length number (line ∷ lines) = ap (λ (n : ℕ). suc n) (numbered-length (number + 1) lines)

pub lines_of-length : (bytes : List ℕ) → length (lines_of bytes) ≤ length bytes
lines_of-length bytes = omega (arith, numbered-length 1 (split_lines bytes), split_lines-length bytes)

pub given_few : (before now : Option (List ℕ)) (given : List Line) (stream : Stream) (ended : Bool) → HasGiven before now given stream ended → length given ≤ limit
given_few before now given stream ended p =
    let all : length given + length (lines_ahead stream []) ≡ length (lines_of p.bytes) =
    sym (length-append given (lines_ahead stream [])) ∙ ap (λ (l : List Line). length l) (p.ahead [] (λ _. refl)) ∙ ap (λ (b : List ℕ). length (lines_of b)) (append-nil p.bytes) in
    omega (arith, all, lines_of-length p.bytes, p.within)

-- ---- one line more

pub line_given : (before now : Option (List ℕ)) (given : List Line) (line : Line) (stream : Stream) (ended : Bool) (found : Option Line) → found ≡ Some line → GivesNext before now given stream ended (Ok found)
    → HasGivenLine before now given line stream ended
line_given before now given line stream ended found e p = subst (λ (o : Option Line). GivesNext before now given stream ended (Ok o)) e p

pub end_given : (before now : Option (List ℕ)) (given : List Line) (stream : Stream) (ended : Bool) (found : Option Line) → found ≡ None → GivesNext before now given stream ended (Ok found) → HasGivenAll before now given
end_given before now given stream ended found e p = subst (λ (o : Option Line). GivesNext before now given stream ended (Ok o)) e p

or_false : (b c : Bool) → b ≡ false → c ≡ false → (b || c) ≡ false
or_false true c e f = e
or_false false c e f = f

unended_push : (given : List Line) (line : Line) → has_end given ≡ false → is_end_of_document line ≡ false → has_end (given ++ line ∷ []) ≡ false
unended_push [] line o e = or_false (is_end_of_document line) false e refl
unended_push (first ∷ given) line o e = by_first (is_end_of_document first) o (λ h. unended_push given line h e)
  where
    by_first : (b : Bool) → (b || has_end given) ≡ false → (has_end given ≡ false → has_end (given ++ line ∷ []) ≡ false) → (b || has_end (given ++ line ∷ [])) ≡ false
    by_first true o h = absurd (false≢true (sym o))
    by_first false o h = h o

ended_text : (before now : Option (List ℕ)) (lines : List Line) (last : Line) (stream : Stream) (ended : Bool) → is_end_of_document last ≡ true → HasGivenLine before now lines last stream ended
    → HasEnded before now stream ended lines
ended_text before now lines last stream ended e p = record { last = last; end = e; given = p }

-- reading is in the text of the document: these lines are held, of so many
pub record IsInText (before now : Option (List ℕ)) (stream : Stream) (ended : Bool) (held : Held) (count : ℕ) : Type 0 where
  pub given : List Line
  pub unended : has_end given ≡ false
  pub input : HasGiven before now given stream ended
  pub holds : Holds held given
  pub counted : count ≡ length given

pub in_text_few : (before now : Option (List ℕ)) (stream : Stream) (ended : Bool) (held : Held) (count : ℕ) → IsInText before now stream ended held count → count ≤ 67108864
in_text_few before now stream ended held count p = omega (arith, p.counted, given_few before now p.given stream ended p.input)

module _ (held : Held) (given : List Line) (line : Line) (p : Holds held given) where
  behind : (more : List Line) (end : Place) → document_of ((given ++ line ∷ []) ++ more) end ≡ document_of (given ++ line ∷ more) end
  behind more end = ap (λ (l : List Line). document_of l end) (append_assoc given (line ∷ []) more)

  pub holds_lost : held.lost ≡ true → Holds held (given ++ line ∷ [])
  holds_lost e =
      let none : BeginsNone held.lines = p.lost e in
      record {
        same = λ more end. none.stays more end ∙ sym (none.stays (line ∷ more) end) ∙ p.same (line ∷ more) end ∙ sym (behind more end);
        lost = p.lost;
      }

  pub holds_skipped : is_skipped line ≡ true → Holds held (given ++ line ∷ [])
  holds_skipped e =
      record {
        same = λ more end. p.same more end ∙ sym (behind more end ∙ skipped_line line more e given end);
        lost = p.lost;
      }

  pub holds_more : (next : Held) → next.lines ≡ held.lines ++ line ∷ [] → (next.lost ≡ true → BeginsNone next.lines) → Holds next (given ++ line ∷ [])
  holds_more next e lost =
      record {
        same = λ more end. ap (λ (l : List Line). document_of (l ++ more) end) e ∙ ap (λ (l : List Line). document_of l end) (append_assoc held.lines (line ∷ []) more) ∙ p.same (line ∷ more) end ∙ sym (behind more end);
        lost = lost;
      }

  pub holds_on : (next : Held) → next.lines ≡ held.lines ++ line ∷ [] → next.lost ≡ false → Holds next (given ++ line ∷ [])
  holds_on next e not_lost = holds_more next e (λ h. absurd (false≢true (sym not_lost ∙ h)))

-- one short line more
pub short_more : (lines next : List Line) (line : Line) → next ≡ lines ++ line ∷ [] → IsShort line → AreShort lines → AreShort next
short_more lines next line e h s = subst AreShort (sym e) (short_joined lines (line ∷ []) s (h, tt))

pub ruleset holding = (holds_lost, holds_skipped, holds_more, holds_on, short_more)

-- what is held is the document, where its text ends behind the lines
same_alone : (held : Held) (given : List Line) (lines : List Line) (count : ℕ) (end : Place) → Holds held given → lines ≡ held.lines → end ≡ record { line = count + 1; column = 1 } → count ≡ length given
    → document_of lines end ≡ document_of_lines given
unfolding document_of_lines
same_alone held given lines count end p k at c =
    ap (λ (l : List Line). document_of l end) (k ∙ sym (append-nil held.lines))
    ∙ p.same [] end
    ∙ ap (λ (l : List Line). document_of l end) (append-nil given)
    ∙ ap (document_of given) (at ∙ ap (λ (n : ℕ). record { line = n + 1; column = 1 }) c)

module _ (before now now' : Option (List ℕ)) (stream stream' : Stream) (ended ended' : Bool) (held : Held) (count : ℕ) (line : Line)
    (p : IsInText before now stream ended held count) (q : GivesNext before now' p.given stream' ended' (Ok (Some line))) where
  -- one line more was given
  pub few_more : count + 1 ≤ 67108864
  few_more = omega (arith, p.counted, given_few before now' (p.given ++ line ∷ []) stream' ended' q.all, length-append p.given (line ∷ []))

  pub in_text_more : (held' : Held) → is_end_of_document line ≡ false → Holds held' (p.given ++ line ∷ []) → IsInText before now' stream' ended' held' (count + 1)
  in_text_more held' e h =
      record {
        given = p.given ++ line ∷ [];
        unended = unended_push p.given line p.unended e;
        input = q.all;
        holds = h;
        counted = omega (arith, p.counted, length-append p.given (line ∷ []));
      }

  pub ended_at_line : (text : Text) → is_end_of_document line ≡ true → text.lines ≡ held.lines → text.end ≡ record { line = count + 1; column = 1 } → text.has_script ≡ true → HasReadText before now' stream' ended' text
  ended_at_line text e k at b =
      record {
        given = p.given;
        unended = p.unended;
        same = same_alone held p.given text.lines count text.end p.holds k at p.counted;
        input = subst (HasText before now' stream' ended' p.given) (sym b) (ended_text before now' p.given line stream' ended' e q);
      }

module _ (before now now' : Option (List ℕ)) (stream stream' : Stream) (ended ended' : Bool) (held : Held) (count : ℕ) (p : IsInText before now stream ended held count) where
  -- no line is left
  pub ended_with_input : (text : Text) → HasGivenAll before now' p.given → text.lines ≡ held.lines → text.end ≡ record { line = count + 1; column = 1 } → text.has_script ≡ false → HasReadText before now' stream' ended' text
  ended_with_input text q k at b =
      record {
        given = p.given;
        unended = p.unended;
        same = same_alone held p.given text.lines count text.end p.holds k at p.counted;
        input = subst (HasText before now' stream' ended' p.given) (sym b) q;
      }

pub wants_in_text : (before now : Option (List ℕ)) (given : List Line) (line : Line) (stream : Stream) (ended : Bool) → HasGivenLine before now given line stream ended
    → has_end given ≡ false → is_end_of_document line ≡ false → StopsInText before now NoMemory
wants_in_text before now given line stream ended p o e =
    record { given = given ++ line ∷ []; unended = unended_push given line o e; stops = no_memory before now (given ++ line ∷ []) stream ended p.all }

fresh : (before : Option (List ℕ)) (stream : Stream) (ended : Bool) → stream ≡ empty_stream → ended ≡ false → HasGiven before before [] stream ended
fresh before stream ended s e =
    subst (λ (x : Stream). HasGiven before before [] x ended) (sym s) (subst (λ (b : Bool). HasGiven before before [] empty_stream b) (sym e) (given_none before))

pub fresh_text : (before : Option (List ℕ)) (stream : Stream) (ended : Bool) (held : Held) → stream ≡ empty_stream → ended ≡ false → (held.lines ≡ []) × (held.lost ≡ false) → IsInText before before stream ended held 0
fresh_text before stream ended held s e h =
    record {
      given = [];
      unended = refl;
      input = fresh before stream ended s e;
      holds = record { same = λ more end. ap (λ (l : List Line). document_of (l ++ more) end) h.0; lost = λ lost. absurd (false≢true (sym h.1 ∙ lost)) };
      counted = refl;
    }

pub ruleset text_reading = (fresh_text, in_text_few)
