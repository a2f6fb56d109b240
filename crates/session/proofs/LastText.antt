-- A run under `write`: the script, line by line, and what is written at its end.
use Rattle.std.proofs.Common.{◌≡◌, ◌≢◌, refl, ap, sym, subst, ◌∙◌, ℕ, ℤ, ◌≤◌, ◌<◌, ◌+◌, ◌-◌, ◌||◌, Bool, true, false, List, [], ◌∷◌, ◌++◌, length, ◌⊎◌, inl, inr, Option, Some, None, Result, Ok, Err, IfSome, append-nil, length-append, arith}
use Rattle.std.specs.Prelude.{if◌then◌else◌, IfOk, ⊤}
use Rattle.std.proofs.lemmas.Bool.{false≢true}
use Rattle.outside.specs.Faults.{Rose, HasCauseOf}
use Rattle.outside.specs.Told.{Stays, Adds, AddsPrefix, Loses}
use Rattle.outside.specs.declared.event.Event.{Event}
use Rattle.outside.proofs.Laws.{stays_same, adds_none, prefix_all, prefix_none}
use Rattle.text_scan.specs.declared.line.Fault.{Fault}
use Rattle.text_scan.specs.declared.line.Line.{Line}
use Rattle.text_scan.specs.Lines.{lines_of, whole_lines}
use Rattle.text_scan.specs.Stream.{Stream}
use Rattle.text_scan.specs.Tokens.{is_skipped}
use Rattle.track_text.specs.Words.{Word}
use Rattle.doc_text.specs.declared.document.Doc.{Doc}
use Rattle.doc_text.specs.declared.edit.Edit.{Edit}
use Rattle.doc_text.specs.declared.edit.Edit.TheVariants as edit
use Rattle.doc_text.specs.Documents.{document_of}
use Rattle.doc_text.specs.EditText.{edit_of}
use Rattle.doc_text.specs.Histories.{History, begins, edited_history}
use Rattle.doc_writer.specs.declared.errors.WriteError.{WriteError}
use Rattle.doc_writer.specs.declared.errors.WriteError.TheVariants as writing
use Rattle.doc_writer.specs.Documents.{canonical, IsDue}
use Rattle.page_tree.specs.Pages.{document_of as held_document}
use Rattle.session.specs.Courses.{history_by, no_steps}
use Rattle.session.specs.Engine.{IsEdit, IsEdited, IsAsBefore}
use Rattle.session.specs.FaultNames.{fault_name}
use Rattle.session.specs.Input.{limit, IsFront, AreFirst, HasGiven, HasGivenLine, HasGivenAll, Stops}
use Rattle.session.specs.Outcome.{early_lines, IsEarlyFault}
use Rattle.session.specs.Printing.{refusal}
use Rattle.session.specs.Runs.{StopsWriting, IsWhole, IsEnded, PermitsOver}
use Rattle.session.specs.Script.{is_end_of_document, has_end, before_end, after_end, document_of_lines, answer_to, doc_made, has_fault, is_refused, made_in, made_of, next_history, or_refused, some_refused, text_of}
use Rattle.session.specs.Serving.{HasText, HasReadText, StopsInText, EndsFirst, ended}
use Rattle.session.specs.Standing.{Standing, doc_of, history_of}
use Rattle.session.specs.Writing.{last_history, due_from, text_due, read_of, written_of, status_due, write_answer, write_verdict_of, write_verdict, WritesLast, WritesBad, WritesSome, WritesNothing, JudgedWrite, RunsWrite, PermitsWrite, IsWriteComplete, HasWritten, LeadsTo, HasLed, IsLedTo, IsLed, StopsInScript, EndsWith, IsUnwritten}
use Rattle.session.specs.declared.said.Said.{Said}
use Rattle.session.specs.declared.said.Said.TheVariants as saying
use Rattle.session.specs.declared.text.Text.{Text}
use Rattle.session.specs.declared.status.Status.{Status}
use Rattle.session.specs.declared.status.Status.TheVariants.{Done, BadDocument, SomeRefused, ReadFault, WriteFault, NoMemory, InputLimit, TooLong, BadWords}
use Rattle.session.proofs.EditLines.{edit_answered, is_edit, not_edit}
use Rattle.session.proofs.Finished.{told_is, long_is, early_is, over_complete, same_front}
use Rattle.session.proofs.Logs.{Made}
use Rattle.session.proofs.Pieces.{first_given}
use Rattle.session.proofs.Running.{IsJust, has_push, just_ended, just_whole, early_front, end_in_last, whole_first, is_whole, unwritten_stop}
use Rattle.session.proofs.Scripts.{has_more, before_more, after_more, before_none, after_none, refused_push}
use Rattle.session.proofs.Written.{plain_all, plain_front}

-- ---- one line

as_before : (old new : Standing) → IsAsBefore old new → history_of new ≡ history_of old
as_before old new b = λ i. history_by (b.steps i) (held_document (b.page i))

pub change_made : (e : Edit) (old new : Standing) → IsEdit e → IsEdited e old new → LeadsTo (answer_to e (history_of old)) (history_of old) (history_of new) false
change_made e old new is a =
    let made : answer_to e (history_of old) ≡ Ok (history_of new) = edit_answered e (history_of old) is ∙ ap or_refused a.history in
    record { next = ap (next_history (history_of old)) (sym made); refused = ap (λ (m : Result History Said). is_refused (doc_made m)) (sym made) }

pub change_refused : (e : Edit) (old new : Standing) (fault : Fault) → IsEdit e → (edited_history e (history_of old) ≡ Err fault) × IsAsBefore old new → LeadsTo (answer_to e (history_of old)) (history_of old) (history_of new) true
change_refused e old new fault is a =
    let made : answer_to e (history_of old) ≡ Err (saying.Refused fault) = edit_answered e (history_of old) is ∙ ap or_refused a.0 in
    record { next = as_before old new a.1 ∙ ap (next_history (history_of old)) (sym made); refused = ap (λ (m : Result History Said). is_refused (doc_made m)) (sym made) }

pub hit_taken : (x y : ℤ) (h : History) → LeadsTo (answer_to (edit.Hit x y) h) h h false
hit_taken x y h = record { next = refl; refused = refl }

pub ruleset changing = (change_made, change_refused, hit_taken)

pub line_taken : {E : Type 0} (r : Result Bool E) (h now : History) (line : Line) (e : Edit) → edit_of h.doc.version line ≡ Ok e → IfOk r (λ bad. LeadsTo (answer_to e h) h now bad) → IfOk r (λ bad. LeadsTo (made_of h line) h now bad)
line_taken (Ok bad) h now line e read p = subst (λ (m : Result History Said). LeadsTo m h now bad) (sym (is_edit h line e read)) p
line_taken (Err error) h now line e read p = tt

pub line_refused : (h : History) (line : Line) (fault : Fault) → edit_of h.doc.version line ≡ Err fault → LeadsTo (made_of h line) h h true
line_refused h line fault read =
    let made : made_of h line ≡ Err (saying.Refused fault) = not_edit h line fault read in
    record { next = ap (next_history h) (sym made); refused = ap (λ (m : Result History Said). is_refused (doc_made m)) (sym made) }

-- ---- one line more of a script

abbrev one_history : History → Line → History
one_history h line = if is_skipped line then h else next_history h (made_of h line)

history_push : (h : History) (script : List Line) (line : Line) → last_history h (script ++ line ∷ []) ≡ one_history (last_history h script) line
history_push h [] line = refl
history_push h (first ∷ script) line = by_first (is_skipped first) (history_push h script line) (history_push (next_history h (made_of h first)) script line)
  where
    by_first : (b : Bool) → last_history h (script ++ line ∷ []) ≡ one_history (last_history h script) line
        → last_history (next_history h (made_of h first)) (script ++ line ∷ []) ≡ one_history (last_history (next_history h (made_of h first)) script) line
        → (if b then last_history h (script ++ line ∷ []) else last_history (next_history h (made_of h first)) (script ++ line ∷ []))
        ≡ one_history (if b then last_history h script else last_history (next_history h (made_of h first)) script) line
    by_first true p q = p
    by_first false p q = q

abbrev one_made : History → Line → List Made
one_made h line = if is_skipped line then [] else doc_made (made_of h line) ∷ []

made_push : (h : History) (script : List Line) (line : Line) → made_in h (script ++ line ∷ []) ≡ made_in h script ++ one_made (last_history h script) line
made_push h [] line = refl
made_push h (first ∷ script) line = by_first (is_skipped first) (made_push h script line) (made_push (next_history h (made_of h first)) script line)
  where
    by_first : (b : Bool) → made_in h (script ++ line ∷ []) ≡ made_in h script ++ one_made (last_history h script) line
        → made_in (next_history h (made_of h first)) (script ++ line ∷ []) ≡ made_in (next_history h (made_of h first)) script ++ one_made (last_history (next_history h (made_of h first)) script) line
        → (if b then made_in h (script ++ line ∷ []) else doc_made (made_of h first) ∷ made_in (next_history h (made_of h first)) (script ++ line ∷ []))
        ≡ (if b then made_in h script else doc_made (made_of h first) ∷ made_in (next_history h (made_of h first)) script) ++ one_made (if b then last_history h script else last_history (next_history h (made_of h first)) script) line
    by_first true p q = p
    by_first false p q = ap (λ (l : List Made). doc_made (made_of h first) ∷ l) q

module _ (given : List Line) (h : History) (bad : Bool) (line : Line) (ended : has_end given ≡ true) (p : HasLed given h bad) where
  read_more : read_of (given ++ line ∷ []) ≡ Ok p.first
  read_more = ap document_of_lines (before_more given (line ∷ []) ended) ∙ p.read

  after_line : after_end (given ++ line ∷ []) ≡ after_end given ++ line ∷ []
  after_line = after_more given (line ∷ []) ended

  history_more : last_history (begins p.first) (after_end (given ++ line ∷ [])) ≡ one_history h line
  history_more = ap (last_history (begins p.first)) after_line ∙ history_push (begins p.first) (after_end given) line ∙ ap (λ (x : History). one_history x line) (sym p.now)

  made_more : made_in (begins p.first) (after_end (given ++ line ∷ [])) ≡ made_in (begins p.first) (after_end given) ++ one_made h line
  made_more = ap (made_in (begins p.first)) after_line ∙ made_push (begins p.first) (after_end given) line ∙ ap (λ (x : History). made_in (begins p.first) (after_end given) ++ one_made x line) (sym p.now)

  pub led_skipped : is_skipped line ≡ true → HasLed (given ++ line ∷ []) h bad
  led_skipped s = record {
    first = p.first;
    read = read_more;
    now = sym (history_more ∙ ap (λ (b : Bool). if b then h else next_history h (made_of h line)) s);
    refused =
        p.refused
        ∙ sym (ap some_refused (made_more ∙ ap (λ (b : Bool). made_in (begins p.first) (after_end given) ++ (if b then [] else doc_made (made_of h line) ∷ [])) s ∙ append-nil (made_in (begins p.first) (after_end given))));
  }

  pub led_more : (now : History) (b : Bool) → is_skipped line ≡ false → LeadsTo (made_of h line) h now b → HasLed (given ++ line ∷ []) now (bad || b)
  led_more now b s m = record {
    first = p.first;
    read = read_more;
    now = m.next ∙ sym (history_more ∙ ap (λ (c : Bool). if c then h else next_history h (made_of h line)) s);
    refused =
        ap (λ (c : Bool). bad || c) m.refused
        ∙ ap (λ (c : Bool). c || is_refused (doc_made (made_of h line))) p.refused
        ∙ sym (ap some_refused (made_more ∙ ap (λ (c : Bool). made_in (begins p.first) (after_end given) ++ (if c then [] else doc_made (made_of h line) ∷ [])) s)
        ∙ refused_push (made_in (begins p.first) (after_end given)) (doc_made (made_of h line)));
  }

  -- a line before it was refused, or none
  pub led_refused : (now : History) (b : Bool) → is_skipped line ≡ false → LeadsTo (made_of h line) h now b → bad ≡ true → HasLed (given ++ line ∷ []) now bad
  led_refused now b s m e = subst (λ (x : Bool). HasLed (given ++ line ∷ []) now x) (ap (λ (x : Bool). x || b) e ∙ sym e) (led_more now b s m)

  pub led_by : (now : History) (b : Bool) → is_skipped line ≡ false → LeadsTo (made_of h line) h now b → bad ≡ false → HasLed (given ++ line ∷ []) now b
  led_by now b s m e = subst (λ (x : Bool). HasLed (given ++ line ∷ []) now x) (ap (λ (x : Bool). x || b) e) (led_more now b s m)

module _ (before now now' : Option (List ℕ)) (stream stream' : Stream) (over over' : Bool) (h : History) (bad : Bool) (p : IsLedTo before now stream over h bad) (line : Line) (q : HasGivenLine before now' p.given line stream' over') where
  pub script_next : (next : History) (b : Bool) → HasLed (p.given ++ line ∷ []) next b → IsLedTo before now' stream' over' next b
  script_next next b l = record { given = p.given ++ line ∷ []; input = q.all; ended = has_more p.given (line ∷ []) p.ended; led = l }

  -- memory was wanting for its edit
  pub script_wanted : StopsInScript before now' NoMemory
  script_wanted = record {
    given = p.given ++ line ∷ [];
    stops = record { bytes = q.all.bytes; taken = q.all.taken; first = first_given before now' (p.given ++ line ∷ []) stream' over' q.all };
    well = ap has_fault (read_more p.given h bad line p.ended p.led);
  }

module _ (before now : Option (List ℕ)) (stream : Stream) (over : Bool) (h : History) (bad : Bool) (p : IsLedTo before now stream over h bad) (now' : Option (List ℕ)) where
  pub script_taken : HasGivenAll before now' p.given → IsLed before now' h bad
  script_taken q = record { given = p.given; input = q; led = p.led }

  pub script_stopped : (status : Status) → Stops before now' p.given status → StopsInScript before now' status
  script_stopped status s = record { given = p.given; stops = s; well = ap has_fault p.led.read }

-- ---- the text of the document

-- the lines up to the end of the document, and what was taken for them
record EndsText (left left' : Option (List ℕ)) (lines : List Line) : Type 0 where
  pub taken : List ℕ
  pub given : List Line
  pub just : IsJust given lines
  pub took : Loses left left' taken
  pub first : AreFirst left given
  pub over : IsEnded left left' taken given

text_ends : (left left' : Option (List ℕ)) (stream : Stream) (over : Bool) (lines : List Line) (b : Bool) → has_end lines ≡ false → HasText left left' stream over lines b → EndsText left left' lines
text_ends left left' stream over lines true o t =
    let all = t.given.all in
    record {
      taken = all.bytes;
      given = lines ++ t.last ∷ [];
      just = just_ended lines t.last o t.end;
      took = all.taken;
      first = first_given left left' (lines ++ t.last ∷ []) stream over all;
      over = inl (has_push lines t.last t.end, early_front left left' (lines ++ t.last ∷ []) stream over all, end_in_last all.bytes lines o t.given.last);
    }
text_ends left left' stream over lines false o t = record {
  taken = t.bytes;
  given = lines;
  just = just_whole lines o;
  took = t.taken;
  first = whole_first left left' lines t;
  over = inr (is_whole left left' lines t);
}

module _ (left left' : Option (List ℕ)) (stream : Stream) (over : Bool) (text : Text) (t : HasReadText left left' stream over text) where
  text_end : EndsText left left' t.given
  text_end = text_ends left left' stream over t.given text.has_script t.unended t.input

  given_read : read_of text_end.given ≡ document_of text.lines text.end
  given_read = ap document_of_lines text_end.just.before ∙ sym t.same

  -- memory was wanting for the document
  pub text_wanted : (w : Option (List ℕ)) → RunsWrite left left' w w NoMemory
  text_wanted w = record { taken = text_end.taken; given = text_end.given; took = text_end.took; first = text_end.first; judged = inl (stays_same w) }

  module _ (w w' : Option (List ℕ)) (fault : Fault) (bad : document_of text.lines text.end ≡ Err fault) where
    due_is : written_of text_end.given ≡ refusal 0 fault.place (fault_name fault.number)
    due_is = ap (λ (r : Result Doc Fault). text_due (due_from r (after_end text_end.given))) (given_read ∙ bad)

    has_bad : has_fault (read_of text_end.given) ≡ true
    has_bad = ap has_fault (given_read ∙ bad)

    abbrev line_of : List ℕ
    line_of = refusal 0 fault.place (fault_name fault.number)

    one_text : text_of 0 (Err (saying.Refused fault)) ++ [] ≡ line_of
    unfolding text_of
    one_text = append-nil line_of

    some_refusal : AddsPrefix w w' line_of → WritesSome left left' w w' text_end.taken text_end.given
    some_refusal p = record { input = inr (text_end.over, has_bad); output = subst (λ (x : List ℕ). AddsPrefix w w' x) (sym due_is) p }

    judged_refusal : (status : Status) → EndsFirst false w w' None None (Err fault) status → JudgedWrite left left' w w' text_end.taken text_end.given status
    judged_refusal Done p = absurd p
    judged_refusal BadDocument p = record {
      input = text_end.over;
      answer = has_bad;
      output = subst (λ (x : List ℕ). Adds w w' x) (one_text ∙ sym due_is) (plain_all w w' None None 0 (Err (saying.Refused fault) ∷ []) p.1);
    }
    judged_refusal SomeRefused p = absurd p
    judged_refusal ReadFault p = absurd p
    judged_refusal WriteFault p = some_refusal (subst (λ (x : List ℕ). AddsPrefix w w' x) one_text (plain_front w w' None None 0 (Err (saying.Refused fault) ∷ []) p))
    judged_refusal NoMemory p = inr (some_refusal (subst (λ (x : List ℕ). AddsPrefix w w' x) one_text (plain_front w w' None None 0 (Err (saying.Refused fault) ∷ []) p)))
    judged_refusal InputLimit p = absurd p
    judged_refusal TooLong p = absurd p
    judged_refusal BadWords p = absurd p

    pub text_refused : (status : Status) → EndsFirst false w w' None None (Err fault) status → RunsWrite left left' w w' status
    text_refused status p = record { taken = text_end.taken; given = text_end.given; took = text_end.took; first = text_end.first; judged = judged_refusal status p }

  -- ---- a document without a fault

  begun_history : (s : Standing) (doc : Doc) → s.steps ≡ no_steps → doc_of s ≡ doc → history_of s ≡ begins doc
  begun_history s doc steps is = λ i. history_by (steps i) (is i)

  led_now : (lines given : List Line) (doc : Doc) (h : History) → IsJust given lines → document_of_lines lines ≡ Ok doc → h ≡ begins doc → HasLed given h false
  led_now lines given doc h just read now = record {
    first = doc;
    read = ap document_of_lines just.before ∙ read;
    now = now ∙ ap (last_history (begins doc)) (sym just.after);
    refused = ap (λ (script : List Line). some_refused (made_in (begins doc) script)) (sym just.after);
  }

  by_end : (b : Bool) → b ≡ false → HasText left left' stream over t.given b → HasGivenAll left left' t.given
  by_end true e p = absurd (false≢true (sym e))
  by_end false e p = p

  pub text_alone : (s : Standing) (doc : Doc) → document_of text.lines text.end ≡ Ok doc → s.steps ≡ no_steps → doc_of s ≡ doc → text.has_script ≡ false → IsLed left left' (history_of s) false
  text_alone s doc read steps is none = record {
    given = t.given;
    input = by_end text.has_script none t.input;
    led = led_now t.given t.given doc (history_of s) (just_whole t.given t.unended) (sym t.same ∙ read) (begun_history s doc steps is);
  }

  at_script : (b : Bool) (s : Standing) (doc : Doc) → b ≡ true → HasText left left' stream over t.given b → document_of text.lines text.end ≡ Ok doc → history_of s ≡ begins doc → IsLedTo left left' stream over (history_of s) false
  at_script false s doc e p read now = absurd (false≢true e)
  at_script true s doc e p read now = record {
    given = t.given ++ p.last ∷ [];
    input = p.given.all;
    ended = has_push t.given p.last p.end;
    led = led_now t.given (t.given ++ p.last ∷ []) doc (history_of s) (just_ended t.given p.last t.unended p.end) (sym t.same ∙ read) now;
  }

  pub text_led : (s : Standing) (doc : Doc) → document_of text.lines text.end ≡ Ok doc → s.steps ≡ no_steps → doc_of s ≡ doc → text.has_script ≡ true → IsLedTo left left' stream over (history_of s) false
  text_led s doc read steps is some = at_script text.has_script s doc some t.input read (begun_history s doc steps is)

-- ---- reading stopped

module _ (left left' w : Option (List ℕ)) where
  stopped : (given : List Line) (status : Status) → Stops left left' given status → WritesNothing left left' w w given → RunsWrite left left' w w status
  stopped given Done s q = absurd s
  stopped given BadDocument s q = absurd s
  stopped given SomeRefused s q = absurd s
  stopped given ReadFault s q = record { taken = s.bytes; given = given; took = s.taken; first = s.first; judged = (s.few, s.lines, q) }
  stopped given WriteFault s q = absurd s
  stopped given NoMemory s q = record { taken = s.bytes; given = given; took = s.taken; first = s.first; judged = inl q.written }
  stopped given InputLimit s q = record { taken = s.bytes; given = given; took = s.taken; first = s.first; judged = (s.passed, s.lines, q) }
  stopped given TooLong s q = absurd s
  stopped given BadWords s q = absurd s

  pub text_stopped : (status : Status) → StopsInText left left' status → RunsWrite left left' w w status
  text_stopped status p = stopped p.given status p.stops (record { written = stays_same w; well = inl p.unended })

  pub taking_stopped : (status : Status) → StopsInScript left left' status → RunsWrite left left' w w status
  taking_stopped status p = stopped p.given status p.stops (record { written = stays_same w; well = inr p.well })

  -- what is held is as before
  pub held_on : (w' : Option (List ℕ)) (status : Status) → w' ≡ w → RunsWrite left left' w w status → RunsWrite left left' w w' status
  held_on w' status e p = subst (λ (x : Option (List ℕ)). RunsWrite left left' w x status) (sym e) p

-- ---- the last document was written

IsLast : Status → Type 0
IsLast Done = ⊤
IsLast SomeRefused = ⊤
IsLast TooLong = ⊤
IsLast status = ⊥

is_last : (bad : Bool) (due : Result (List ℕ) Word) → IsLast (status_due bad due)
unfolding IsLast
is_last true (Ok text) = tt
is_last false (Ok text) = tt
is_last bad (Err name) = tt

no_last : {A : Type 0} (bad : Bool) (due : Result (List ℕ) Word) (status : Status) → (IsLast status → ⊥) → status_due bad due ≡ status → A
no_last bad due status n e = absurd (n (subst IsLast e (is_last bad due)))

module _ (left left' w w' : Option (List ℕ)) (h : History) (bad : Bool) (p : IsLed left left' h bad) where
  last_due : due_from (read_of p.given) (after_end p.given) ≡ canonical h.doc
  last_due = ap (λ (r : Result Doc Fault). due_from r (after_end p.given)) p.led.read ∙ ap (λ (x : History). canonical x.doc) (sym p.led.now)

  last_verdict : write_verdict_of p.given ≡ status_due bad (canonical h.doc)
  last_verdict = ap (λ (r : Result Doc Fault). write_answer r (after_end p.given)) p.led.read ∙ (λ i. status_due (sym p.led.refused i) (canonical (sym p.led.now i).doc))

  whole : IsWhole left left' p.input.bytes p.given
  whole = is_whole left left' p.given p.input

  all_last : (status : Status) → (status_due bad (canonical h.doc) ≡ status) × Adds w w' (text_due (canonical h.doc)) → WritesLast left left' w w' p.input.bytes p.given status
  all_last status e = record { input = whole; answer = last_verdict ∙ e.0; output = subst (λ (d : Result (List ℕ) Word). Adds w w' (text_due d)) (sym last_due) e.1 }

  some_last : AddsPrefix w w' (text_due (canonical h.doc)) → WritesSome left left' w w' p.input.bytes p.given
  some_last e = record { input = inl whole; output = subst (λ (d : Result (List ℕ) Word). AddsPrefix w w' (text_due d)) (sym last_due) e }

  judged_last : (status : Status) → EndsWith w w' bad (canonical h.doc) status → JudgedWrite left left' w w' p.input.bytes p.given status
  unfolding IsLast
  judged_last Done e = all_last Done e
  judged_last SomeRefused e = all_last SomeRefused e
  judged_last TooLong e = all_last TooLong e
  judged_last WriteFault e = some_last e
  judged_last NoMemory e = inr (some_last e)
  judged_last BadDocument e = no_last bad (canonical h.doc) BadDocument (λ x. x) e.0
  judged_last ReadFault e = no_last bad (canonical h.doc) ReadFault (λ x. x) e.0
  judged_last InputLimit e = no_last bad (canonical h.doc) InputLimit (λ x. x) e.0
  judged_last BadWords e = no_last bad (canonical h.doc) BadWords (λ x. x) e.0

  pub last_written : (status : Status) → EndsWith w w' bad (canonical h.doc) status → RunsWrite left left' w w' status
  last_written status e = record { taken = p.input.bytes; given = p.given; took = p.input.taken; first = whole_first left left' p.given p.input; judged = judged_last status e }

  -- nothing was written before
  pub last_ended : (v : Option (List ℕ)) (status : Status) → v ≡ w → EndsWith v w' bad (canonical h.doc) status → RunsWrite left left' w w' status
  last_ended v status e q = last_written status (subst (λ (x : Option (List ℕ)). EndsWith x w' bad (canonical h.doc) status) e q)

-- ---- all bytes of an input

module _ (told : List ℕ) (left' w w' : Option (List ℕ)) where
  lines_are : (taken : List ℕ) (given : List Line) → IsWhole (Some told) left' taken given → given ≡ lines_of told
  lines_are taken given p = p.lines ∙ ap lines_of (told_is told taken left' p.whole)

  not_whole : {A : Type 0} (taken : List ℕ) (given : List Line) → IsWhole (Some told) left' taken given → limit < length told → A
  not_whole taken given p many = absurd (omega (arith, ap (λ (x : List ℕ). length x) (told_is told taken left' p.whole), p.few, many))

  abbrev Due : Type 0
  Due = Adds w w' (written_of (lines_of told))

  abbrev SomeDue : Type 0
  SomeDue = AddsPrefix w w' (written_of (lines_of told))

  bad_due : (r s : Result Doc Fault) (script more : List Line) → r ≡ s → has_fault s ≡ true → text_due (due_from r script) ≡ text_due (due_from s more)
  bad_due r (Ok doc) script more e n = absurd (false≢true n)
  bad_due r (Err fault) script more e n = ap (λ (x : Result Doc Fault). text_due (due_from x script)) e

  same_read : (taken : List ℕ) (given : List Line) → IsFront given (lines_of told) → IsEnded (Some told) left' taken given → read_of (lines_of told) ≡ read_of given
  same_read taken given f (inl e) = same_front given (lines_of told) e.0 f
  same_read taken given f (inr i) = ap read_of (sym (lines_are taken given i))

  same_bad : (taken : List ℕ) (given : List Line) → IsFront given (lines_of told) → IsEnded (Some told) left' taken given → has_fault (read_of given) ≡ true → written_of (lines_of told) ≡ written_of given
  same_bad taken given f e n = bad_due (read_of (lines_of told)) (read_of given) (after_end (lines_of told)) (after_end given) (same_read taken given f e) n

  last_all : (status : Status) (taken : List ℕ) (given : List Line) → WritesLast (Some told) left' w w' taken given status → (status ≡ write_verdict told) × Due
  last_all status taken given p =
      (sym p.answer ∙ ap write_verdict_of (lines_are taken given p.input), subst (λ (x : List Line). Adds w w' (written_of x)) (lines_are taken given p.input) p.output)

  bad_all : (taken : List ℕ) (given : List Line) → IsFront given (lines_of told) → WritesBad (Some told) left' w w' taken given → Due
  bad_all taken given f p = subst (λ (x : List ℕ). Adds w w' x) (sym (same_bad taken given f p.input p.answer)) p.output

  bad_verdict : (r : Result Doc Fault) (script : List Line) → has_fault r ≡ true → BadDocument ≡ write_answer r script
  bad_verdict (Ok doc) script n = absurd (false≢true n)
  bad_verdict (Err fault) script n = refl

  some_all : (taken : List ℕ) (given : List Line) → IsFront given (lines_of told) → WritesSome (Some told) left' w w' taken given → SomeDue
  some_all taken given f p = by_input p.input
    where
      by_input : IsWhole (Some told) left' taken given ⊎ (IsEnded (Some told) left' taken given × (has_fault (read_of given) ≡ true)) → SomeDue
      by_input (inl i) = subst (λ (x : List Line). AddsPrefix w w' (written_of x)) (lines_are taken given i) p.output
      by_input (inr e) = subst (λ (x : List ℕ). AddsPrefix w w' x) (sym (same_bad taken given f e.0 e.1)) p.output

  none_due : Stays w w' → SomeDue
  none_due s = by_list w w' s
    where
      by_list : (a b : Option (List ℕ)) → Stays a b → AddsPrefix a b (written_of (lines_of told))
      by_list None b s = record { rest = written_of (lines_of told); added = record { done = []; added = tt; parts = refl } }
      by_list (Some xs) None s = absurd s
      by_list (Some xs) (Some ys) s = subst (λ (zs : List ℕ). AddsPrefix (Some xs) (Some zs) (written_of (lines_of told))) (sym s) (prefix_none (Some xs) (written_of (lines_of told)))

  prefix_due : (status : Status) (taken : List ℕ) (given : List Line) → IsFront given (lines_of told) → JudgedWrite (Some told) left' w w' taken given status → SomeDue
  prefix_due Done taken given f p = prefix_all w w' (written_of (lines_of told)) (last_all Done taken given p).1
  prefix_due SomeRefused taken given f p = prefix_all w w' (written_of (lines_of told)) (last_all SomeRefused taken given p).1
  prefix_due TooLong taken given f p = prefix_all w w' (written_of (lines_of told)) (last_all TooLong taken given p).1
  prefix_due BadDocument taken given f p = prefix_all w w' (written_of (lines_of told)) (bad_all taken given f p)
  prefix_due WriteFault taken given f p = some_all taken given f p
  prefix_due NoMemory taken given f (inl s) = none_due s
  prefix_due NoMemory taken given f (inr p) = some_all taken given f p
  prefix_due ReadFault taken given f p = none_due p.2.written
  prefix_due InputLimit taken given f p = none_due p.2.written
  prefix_due BadWords taken given f p = absurd p

  permitted : (status : Status) (taken : List ℕ) (given : List Line) → Loses (Some told) left' taken → IsFront given (lines_of told) → length told ≤ limit → JudgedWrite (Some told) left' w w' taken given status → PermitsWrite Due told status
  permitted Done taken given t f few p = last_all Done taken given p
  permitted SomeRefused taken given t f few p = last_all SomeRefused taken given p
  permitted TooLong taken given t f few p = last_all TooLong taken given p
  permitted BadDocument taken given t f few p = (bad_verdict (read_of (lines_of told)) (after_end (lines_of told)) (ap has_fault (same_read taken given f p.input) ∙ p.answer), bad_all taken given f p)
  permitted ReadFault taken given t f few p = tt
  permitted WriteFault taken given t f few p = tt
  permitted NoMemory taken given t f few p = tt
  permitted InputLimit taken given t f few p = absurd (omega (arith, long_is told taken left' t, p.0, few))
  permitted BadWords taken given t f few p = absurd p

  early_bad : (taken : List ℕ) (given : List Line) → limit < length told → WritesBad (Some told) left' w w' taken given → IsEarlyFault (early_lines told)
  early_bad taken given many p = by_input p.input
    where
      with_front : has_end given ≡ true → IsFront given (early_lines told) → IsEarlyFault (early_lines told)
      with_front e f = (ap has_end (sym f.parts) ∙ has_more given f.rest e, ap has_fault (same_front given (early_lines told) e f) ∙ p.answer)

      by_input : IsEnded (Some told) left' taken given → IsEarlyFault (early_lines told)
      by_input (inl e) = with_front e.0 (e.1 many)
      by_input (inr i) = not_whole taken given i many

  no_early : (given : List Line) → given ≡ early_lines told → (has_end given ≡ false) ⊎ (has_fault (read_of given) ≡ false) → ¬ IsEarlyFault (early_lines told)
  no_early given g (inl o) fault = absurd (false≢true (sym o ∙ ap has_end g ∙ fault.0))
  no_early given g (inr o) fault = absurd (false≢true (sym o ∙ ap (λ (x : List Line). has_fault (read_of x)) g ∙ fault.1))

  permitted_over : (status : Status) (taken : List ℕ) (given : List Line) → Loses (Some told) left' taken → IsFront given (lines_of told) → limit < length told → JudgedWrite (Some told) left' w w' taken given status → PermitsOver Due told status
  permitted_over Done taken given t f many p = not_whole taken given p.input many
  permitted_over SomeRefused taken given t f many p = not_whole taken given p.input many
  permitted_over TooLong taken given t f many p = not_whole taken given p.input many
  permitted_over BadDocument taken given t f many p = (early_bad taken given many p, bad_all taken given f p)
  permitted_over ReadFault taken given t f many p = tt
  permitted_over WriteFault taken given t f many p = tt
  permitted_over NoMemory taken given t f many p = tt
  permitted_over InputLimit taken given t f many p =
      let long : limit < length taken = omega (arith, p.0) in
      no_early given (p.1 ∙ early_is told taken left' t long) p.2.well
  permitted_over BadWords taken given t f many p = absurd p

write_complete : (wrote : Type 0) (told : List ℕ) (status : Status) → PermitsWrite wrote told status → status ≢ ReadFault → status ≢ WriteFault → (status ≡ NoMemory) ⊎ ((status ≡ write_verdict told) × wrote)
write_complete wrote told Done p r k = inr p
write_complete wrote told SomeRefused p r k = inr p
write_complete wrote told TooLong p r k = inr p
write_complete wrote told BadDocument p r k = inr p
write_complete wrote told ReadFault p r k = absurd (r refl)
write_complete wrote told WriteFault p r k = absurd (k refl)
write_complete wrote told NoMemory p r k = inl refl
write_complete wrote told InputLimit p r k = inr p
write_complete wrote told BadWords p r k = inr p

module _ (left' w w' : Option (List ℕ)) (s s' k k' : ℕ) (status : Status) (read : status ≡ ReadFault → Rose s s') (write : status ≡ WriteFault → Rose k k') where
  pub has_written : (left : Option (List ℕ)) → RunsWrite left left' w w' status → HasWritten left left' w w' s s' k k' status
  has_written None p = record { runs = p; prefix = tt; permits = tt; over = tt; complete = tt; over_complete = tt }
  has_written (Some told) p =
      let few : length told ≤ limit → PermitsWrite (Adds w w' (written_of (lines_of told))) told status = λ h. permitted told left' w w' status p.taken p.given p.took p.first h p.judged in
      let many : limit < length told → PermitsOver (Adds w w' (written_of (lines_of told))) told status = λ h. permitted_over told left' w w' status p.taken p.given p.took p.first h p.judged in
      record {
        runs = p;
        prefix = prefix_due told left' w w' status p.taken p.given p.first p.judged;
        permits = few;
        over = many;
        complete = λ h no_read no_write. write_complete (Adds w w' (written_of (lines_of told))) told status (few h) (λ e. no_read (read e)) (λ e. no_write (write e));
        over_complete = over_complete (Some told) (λ b. Adds w w' (written_of (lines_of b))) s s' k k' status many read write;
      }

-- ---- faults

abbrev stops_with : (T : Type 0) → Status → Result T Status
stops_with T status = Err status

status_in : {T : Type 0} → Status → Result T Status → Status
status_in none (Ok x) = none
status_in none (Err status) = status

pub as_err : {T : Type 0} (before after : ℕ) (status cause : Status) → HasCauseOf before after (status ≡ cause) → HasCauseOf before after (stops_with T status ≡ stops_with T cause)
unfolding status_in
as_err before after status cause p = record { later = p.later; cause = λ e. p.cause (ap (status_in status) e) }

module _ (before after : ℕ) (later : before ≤ after) where
  no_read : (due : Result (List ℕ) Word) (bad : Bool) (status : Status) (w w' : Option (List ℕ)) → EndsWith w w' bad due status → status ≡ ReadFault → ⊥
  unfolding IsLast
  no_read due bad status w w' p e = no_last bad due ReadFault (λ x. x) (subst (EndsWith w w' bad due) e p).0

  -- what is written at the end is no fault of reading
  pub last_read : (due : Result (List ℕ) Word) (bad : Bool) (status : Status) (w w' : Option (List ℕ)) → EndsWith w w' bad due status → HasCauseOf before after (status ≡ ReadFault)
  last_read due bad status w w' p = record { later = later; cause = λ e. absurd (no_read due bad status w w' p e) }

  pub refused_read : (fault : Fault) (status : Status) (w w' : Option (List ℕ)) → EndsFirst false w w' None None (Err fault) status → HasCauseOf before after (status ≡ ReadFault)
  refused_read fault status w w' p = record { later = later; cause = λ e. absurd (subst (EndsFirst false w w' None None (Err fault)) e p) }

  -- no stop of reading is a fault of writing
  pub text_write : (left now : Option (List ℕ)) (status : Status) → StopsInText left now status → HasCauseOf before after (status ≡ WriteFault)
  text_write left now status p = unwritten_stop left now p.given status before after p.stops later

  pub script_write : (left now : Option (List ℕ)) (status : Status) → StopsInScript left now status → HasCauseOf before after (status ≡ WriteFault)
  script_write left now status p = unwritten_stop left now p.given status before after p.stops later

-- ---- the last document

module _ (w w' : Option (List ℕ)) (bad : Bool) where
  pub ends_written : (doc due : Doc) (text : List ℕ) (status : Status) → doc ≡ due → canonical doc ≡ Ok text → status ≡ ended bad → Adds w w' text → EndsWith w w' bad (canonical due) status
  ends_written doc due text status same is e a = subst (λ (d : Doc). EndsWith w w' bad (canonical d) status) same (subst (λ (r : Result (List ℕ) Word). EndsWith w w' bad r status) (sym is) (subst (EndsWith w w' bad (Ok text)) (sym e) (by_bad bad)))
    where
      by_bad : (b : Bool) → EndsWith w w' b (Ok text) (ended b)
      by_bad true = (refl, a)
      by_bad false = (refl, a)

  pub ends_part : (doc due : Doc) (text : List ℕ) (status : Status) → doc ≡ due → canonical doc ≡ Ok text → StopsWriting status → AddsPrefix w w' text → EndsWith w w' bad (canonical due) status
  ends_part doc due text status same is s a = subst (λ (d : Doc). EndsWith w w' bad (canonical d) status) same (subst (λ (r : Result (List ℕ) Word). EndsWith w w' bad r status) (sym is) (by_status status s))
    where
      by_status : (status : Status) → StopsWriting status → EndsWith w w' bad (Ok text) status
      by_status Done s = absurd s
      by_status BadDocument s = absurd s
      by_status SomeRefused s = absurd s
      by_status ReadFault s = absurd s
      by_status WriteFault s = a
      by_status NoMemory s = a
      by_status InputLimit s = absurd s
      by_status TooLong s = absurd s
      by_status BadWords s = absurd s

pub ends_none : (w : Option (List ℕ)) (bad : Bool) (due : Result (List ℕ) Word) → EndsWith w w bad due NoMemory
ends_none w bad due = prefix_none w (text_due due)

pub ends_unwritten : (w : Option (List ℕ)) (bad : Bool) (doc due : Doc) (error : WriteError) (status : Status) → doc ≡ due → IsDue error (canonical doc) → IsUnwritten error status → EndsWith w w bad (canonical due) status
ends_unwritten w bad doc due (writing.TooLong name) status same is e =
    subst (λ (d : Doc). EndsWith w w bad (canonical d) status) same (subst (EndsWith w w bad (canonical doc)) (sym e) (subst (λ (r : Result (List ℕ) Word). EndsWith w w bad r TooLong) (sym is) (refl, adds_none w)))
ends_unwritten w bad doc due writing.NoMemory status same is e = subst (EndsWith w w bad (canonical due)) (sym e) (ends_none w bad (canonical due))

-- the error is no fault of writing
abbrev IsReached : Status → Type 0
IsReached WriteFault = ⊥
IsReached status = ⊤

pub unwritten_write : (error : WriteError) (status : Status) → IsUnwritten error status → status ≡ WriteFault → ⊥
unwritten_write (writing.TooLong name) status e f = subst IsReached (sym e ∙ f) tt
unwritten_write writing.NoMemory status e f = subst IsReached (sym e ∙ f) tt

pub ruleset leading = (led_skipped, led_more)

pub ruleset ending = (ends_written, ends_part, ends_none, ends_unwritten)

pub ruleset starting = (text_stopped, text_wanted, text_refused, text_alone, text_led)

pub ruleset serving = (taking_stopped, last_written, script_taken, script_stopped)
