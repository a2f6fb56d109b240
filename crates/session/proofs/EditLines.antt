-- What an edit line makes of a history, and how it is answered.
use Rattle.std.proofs.Common.{◌≡◌, refl, ap, sym, subst, ◌∙◌, ℕ, ℤ, Bool, true, false, List, [], ◌∷◌, Option, None, Some, Result, Ok, Err}
use Rattle.std.specs.Prelude.{IfOk}
use Rattle.text_scan.specs.declared.line.Fault.{Fault}
use Rattle.text_scan.specs.declared.line.Line.{Line}
use Rattle.outside.specs.declared.event.Event.{Event}
use Rattle.doc_text.specs.declared.document.Doc.{Doc}
use Rattle.doc_text.specs.declared.edit.Edit.{Edit}
use Rattle.doc_text.specs.declared.edit.Edit.TheVariants as edit
use Rattle.doc_text.specs.EditText.{edit_of}
use Rattle.doc_text.specs.Histories.{History, edited_history}
use Rattle.page_tree.specs.Pages.{document_of}
use Rattle.session.specs.Boxes.{boxes_of}
use Rattle.session.specs.Hits.{box_under}
use Rattle.session.specs.Courses.{Course, Steps, history_by, next_course, steps_by, steps_to, touched_by, touched_to}
use Rattle.session.specs.Engine.{AnswersEdit, AnswersLine, IsAnswered, IsAsBefore, IsEdit, IsEdited, IsSame, Says, Spreads}
use Rattle.session.specs.Logs.{LogsFront}
use Rattle.session.specs.Script.{answer_to, doc_made, is_refusal, is_refused, made_of, next_history, or_refused, said_line}
use Rattle.session.specs.Standing.{Standing, course_of, doc_of, history_of}
use Rattle.session.specs.Written.{Prints}
use Rattle.session.specs.declared.said.Said.{Said}
use Rattle.session.specs.declared.said.Said.TheVariants as saying
use Rattle.session.proofs.Logs.{Made, front_none}
use Rattle.session.proofs.Serving.{said_prints}
use Rattle.session.proofs.ToldEdits.{values_told, node_named}

-- ---- an edit, and a hit

-- an edit is answered by the next history, or by why it is refused
pub edit_answered : (e : Edit) (h : History) → IsEdit e → answer_to e h ≡ or_refused (edited_history e h)
edit_answered (edit.Set named settings) h is = refl
edit_answered (edit.Unset named props) h is = refl
edit_answered (edit.Insert parent index at named node) h is = refl
edit_answered (edit.Remove named) h is = refl
edit_answered (edit.Move named parent index at) h is = refl
edit_answered (edit.Content named kind) h is = refl
edit_answered (edit.Viewport width height) h is = refl
edit_answered (edit.Undo n at) h is = refl
edit_answered (edit.Redo n at) h is = refl
edit_answered (edit.Hit x y) h is = absurd is

pub edit_made : (e : Edit) (old new : Standing) → IsEdit e → IsEdited e old new → AnswersEdit None e old new
edit_made e old new is a = record { made = edit_answered e (history_of old) is ∙ ap or_refused a.history; steps = a.steps; spreads = a.spreads }

pub edit_refused : (e : Edit) (old new : Standing) (fault : Fault) → IsEdit e → (edited_history e (history_of old) ≡ Err fault) × IsAsBefore old new → AnswersEdit (Some (saying.Refused fault)) e old new
edit_refused e old new fault is a = record { made = edit_answered e (history_of old) is ∙ ap or_refused a.0; before = a.1 }

pub hit_found : (x y : ℤ) (name : Option (List ℕ)) (old new : Standing) → name ≡ box_under (boxes_of (doc_of old)) x y → new ≡ old → AnswersEdit (Some (saying.Found name)) (edit.Hit x y) old new
hit_found x y name old new found same =
    record {
      made = ap (λ (n : Option (List ℕ)). Err (saying.Found n)) (sym found);
      before = record { page = ap (λ (s : Standing). s.page) same; steps = ap (λ (s : Standing). s.steps) same; laid = ap (λ (s : Standing). s.laid) same };
    }

pub ruleset edit_applying = (edit_made, edit_refused, hit_found)

-- ---- the line of it

abbrev of_read : History → Result Edit Fault → Result History Said
of_read h (Err fault) = Err (saying.Refused fault)
of_read h (Ok e) = answer_to e h

pub not_edit : (h : History) (line : Line) (fault : Fault) → edit_of h.doc.version line ≡ Err fault → made_of h line ≡ Err (saying.Refused fault)
unfolding made_of
not_edit h line fault e = ap (of_read h) e

pub is_edit : (h : History) (line : Line) (e : Edit) → edit_of h.doc.version line ≡ Ok e → made_of h line ≡ answer_to e h
unfolding made_of
is_edit h line e read = ap (of_read h) read

pub line_refused : (old : Standing) (line : Line) (fault : Fault) → edit_of (doc_of old).version line ≡ Err fault → AnswersLine (Some (saying.Refused fault)) line old old
line_refused old line fault read = record { made = not_edit (history_of old) line fault read; before = record { page = refl; steps = refl; laid = refl } }

-- the steps after a line, and what it touches
made_steps : (c : Course) (next : Result History Said) (line : Line) (e : Edit) → edit_of c.history.doc.version line ≡ Ok e → made_of c.history line ≡ next → steps_to next (Ok e) c ≡ steps_by c line
unfolding steps_by
made_steps c next line e read made = λ i. steps_to (sym made i) (sym read i) c

made_touched : (c : Course) (next : Result History Said) (line : Line) (e : Edit) → edit_of c.history.doc.version line ≡ Ok e → made_of c.history line ≡ next → touched_to next (Ok e) c ≡ touched_by c line
unfolding touched_by
made_touched c next line e read made = λ i. λ (name : List ℕ). touched_to (sym made i) (sym read i) c name

said_steps : (c : Course) (said : Said) (line : Line) → made_of c.history line ≡ Err said → c.steps ≡ steps_by c line
unfolding steps_by
said_steps c said line made = λ i. steps_to (sym made i) (edit_of c.history.doc.version line) c

-- the line reads as this edit
line_answers : (said : Option Said) (old new : Standing) (line : Line) (e : Edit) → edit_of (doc_of old).version line ≡ Ok e → AnswersEdit said e old new → AnswersLine said line old new
line_answers None old new line e read a =
    let made : made_of (history_of old) line ≡ Ok (history_of new) = is_edit (history_of old) line e read ∙ a.made in
    record {
      made = made;
      steps = a.steps ∙ made_steps (course_of old) (Ok (history_of new)) line e read made;
      spreads = subst (λ (f : List ℕ → Bool). Spreads f old.page new.page) (made_touched (course_of old) (Ok (history_of new)) line e read made) a.spreads;
    }
line_answers (Some said) old new line e read a = record { made = is_edit (history_of old) line e read ∙ a.made; before = a.before }

pub line_answered : {E : Type 0} (r : Result (Option Said) E) (old new : Standing) (line : Line) (e : Edit) → edit_of (doc_of old).version line ≡ Ok e → IfOk r (λ said. AnswersEdit said e old new) → IfOk r (λ said. AnswersLine said line old new)
line_answered (Ok said) old new line e read a = line_answers said old new line e read a
line_answered (Err error) old new line e read a = tt

pub ruleset line_applying = (values_told, node_named)

-- ---- answering it

-- a line leads to a history with these steps
to_course : (old new : Standing) (line : Line) → history_of new ≡ next_history (history_of old) (made_of (history_of old) line) → new.steps ≡ steps_by (course_of old) line → course_of new ≡ next_course (course_of old) line
to_course old new line history steps = λ i. record { history = history i; steps = steps i }

same_history : (old new : Standing) → new.steps ≡ old.steps → doc_of new ≡ doc_of old → history_of new ≡ history_of old
same_history old new steps doc = λ i. history_by (steps i) (doc i)

pub answered_laid : (old new laid : Standing) (line : Line) → AnswersLine None line old new → IsSame new laid → IsAnswered (course_of old) line (course_of laid) false
answered_laid old new laid line a same =
    record {
      next = to_course old laid line (same_history new laid same.steps same.document ∙ ap (next_history (history_of old)) (sym a.made)) (same.steps ∙ a.steps);
      refused = ap (λ (m : Result History Said). is_refused (doc_made m)) (sym a.made);
    }

pub answered_said : (old new : Standing) (line : Line) (said : Said) (bad : Bool) → AnswersLine (Some said) line old new → bad ≡ is_refusal said → IsAnswered (course_of old) line (course_of new) bad
answered_said old new line said bad p b =
    record {
      next = to_course old new line (same_history old new p.before.steps (ap document_of p.before.page) ∙ ap (next_history (history_of old)) (sym p.made)) (p.before.steps ∙ said_steps (course_of old) said line p.made);
      refused = b ∙ ap (λ (m : Result History Said). is_refused (doc_made m)) (sym p.made);
    }

pub prints_ok : (stats : Bool) (k : ℕ) (made : Result History Said) (h : History) (l l' : Option (List Event)) (text : List ℕ) → made ≡ Ok h → Prints stats l l' k (Ok h.doc) text → Prints stats l l' k (doc_made made) text
prints_ok stats k made h l l' text e p = subst (λ (m : Result History Said). Prints stats l l' k (doc_made m) text) (sym e) p

pub prints_said : (stats : Bool) (k : ℕ) (made : Result History Said) (old new : Standing) (said : Said) (l : Option (List Event)) (text : List ℕ) → Says said made old new → text ≡ said_line k said → Prints stats l l k (doc_made made) text
prints_said stats k made old new said l text p t = subst (λ (m : Result History Said). Prints stats l l k (doc_made m) text) (sym p.made) (said_prints stats l k said text t)

pub logged_front : (k : ℕ) (made : Result History Said) (h : History) (l l' : Option (List Event)) → made ≡ Ok h → LogsFront l l' k (Ok h.doc ∷ []) → LogsFront l l' k (doc_made made ∷ [])
logged_front k made h l l' e p = subst (λ (m : Result History Said). LogsFront l l' k (doc_made m ∷ [])) (sym e) p

pub logged_none : (k : ℕ) (made : Made) (l : Option (List Event)) → LogsFront l l k (made ∷ [])
logged_none k made l = front_none l k (made ∷ [])

pub ruleset answering = (answered_laid, answered_said, prints_ok, prints_said, logged_front, logged_none)
