-- What a call that edits an engine asks, answers and leaves.
use Rattle.std.specs.Prelude.{◌≡◌, ℕ, ◌<◌, List, [], ◌∷◌, Option, None, Some, Result, Ok, Err, Bool, false, ⊤}
use Rattle.doc_text.specs.declared.edit.Edit.{Edit}
use Rattle.doc_text.specs.declared.edit.Edit.TheVariants as edit
use Rattle.doc_text.specs.Valid.{IsTold, IsToldKind, IsToldLabel, IsDeclared}
use Rattle.doc_text.specs.View.{label_of}
use Rattle.value_text.specs.ValueText.{Settings}
use Rattle.text_scan.specs.declared.line.Line.{Line}
use Rattle.doc_text.specs.Edits.{edited, tree_of}
use Rattle.doc_text.specs.Histories.{History, edited_history, redone, undone, with_edited}
use Rattle.edit_journal.specs.Journals.{Lists}
use Rattle.edit_journal.specs.Steps.{step_for}
use Rattle.asked_pages.specs.Leaves.{PassesUp}
use Rattle.node_arena.specs.Numbers.{EachNode}
use Rattle.page_tree.specs.Pages.{Held, document_of}
use Rattle.page_tree.specs.Reach.{KeepsOn, is_touched}
use Rattle.page_tree.specs.declared.error.EditError.{EditError}
use Rattle.page_tree.specs.declared.error.EditError.TheVariants as error
use Rattle.session.specs.Courses.{Course, Steps, back_of, forward_of, history_by, made_again, made_by, next_course, next_steps, steps_by, taken_back, touched_along, touched_between, touched_by, with_step}
use Rattle.session.specs.Script.{answer_to, is_refused, made_of}
use Rattle.session.specs.Standing.{Standing, course_of, doc_of, history_of, steps_of}
use Rattle.session.specs.declared.said.Said.{Said}

-- each value is one that a declaration of the version sets
abbrev pub AreDeclared : ℕ → Settings → Type 0
AreDeclared version [] = ⊤
AreDeclared version (setting ∷ settings) = IsDeclared version setting.0 setting.1 × AreDeclared version settings

-- the values, contents and sizes of an edit are ones that a text of the version tells
abbrev pub IsToldEdit : ℕ → Edit → Type 0
IsToldEdit version (edit.Set named settings) = AreDeclared version settings
IsToldEdit version (edit.Unset named props) = ⊤
IsToldEdit version (edit.Insert parent index at named node) = IsToldLabel version (label_of node)
IsToldEdit version (edit.Remove named) = ⊤
IsToldEdit version (edit.Move named parent index at) = ⊤
IsToldEdit version (edit.Content named kind) = IsToldKind kind
IsToldEdit version (edit.Viewport width height) = IsTold width × IsTold height
IsToldEdit version (edit.Undo n at) = ⊤
IsToldEdit version (edit.Redo n at) = ⊤
IsToldEdit version (edit.Hit x y) = ⊤

-- an edit that can be applied: a hit is none
abbrev pub IsEdit : Edit → Type 0
IsEdit (edit.Hit x y) = ⊥
IsEdit e = ⊤

-- ---- what an edit keeps

-- a node of the new page keeps nothing where its name is touched, and else what it kept before, under the same name
abbrev pub KeepsUntouched : (List ℕ → Bool) → Held → Held → Type 0
KeepsUntouched touched old new = EachNode (λ x. KeepsOn (touched x.1.name) old.nodes.tree x) new.nodes.tree

-- what is touched is let go and no more, and with a leaf that is touched its parent is
pub record Spreads (touched : List ℕ → Bool) (old new : Held) : Type 0 where
  pub kept : KeepsUntouched touched old new
  pub up : PassesUp touched (tree_of (document_of new))

-- ---- undo and redo

-- a held document with the steps that led to it
pub record Traced : Type 0 where
  pub page : Held
  pub steps : Steps

abbrev pub history_in : Traced → History
history_in t = history_by t.steps (document_of t.page)

-- a held document after so many steps were taken back
pub record TakesBack (n : ℕ) (old new : Traced) : Type 0 where
  pub history : history_in new ≡ undone n (history_in old).past (history_in old).doc (history_in old).future
  pub steps : new.steps ≡ taken_back n old.steps.done old.steps.undone
  pub spreads : Spreads (touched_along back_of n old.steps.done (document_of old.page)) old.page new.page

-- a held document after so many steps that were taken back were made again
pub record MakesAgain (n : ℕ) (old new : Traced) : Type 0 where
  pub history : history_in new ≡ redone n (history_in old).past (history_in old).doc (history_in old).future
  pub steps : new.steps ≡ made_again n old.steps.done old.steps.undone
  pub spreads : Spreads (touched_along forward_of n old.steps.undone (document_of old.page)) old.page new.page

-- fewer steps were moved than were asked for, each of them whole
pub record StopsShort (moves : ℕ → Traced → Traced → Type 0) (n : ℕ) (old new : Traced) : Type 0 where
  pub count : ℕ
  pub fewer : count < n
  pub moved : moves count old new

-- ---- an edit of a held document

abbrev pub traced_by : Held → Lists → Traced
traced_by page journal = record { page = page; steps = steps_of journal }

-- an edit was applied
pub record EditsOnce (e : Edit) (old new : Traced) : Type 0 where
  pub made : edited e (document_of old.page) ≡ Ok (document_of new.page)
  pub history : history_in new ≡ with_edited (history_in old) (document_of new.page)
  pub steps : new.steps ≡ with_step (step_for (document_of old.page) e) old.steps
  pub spreads : Spreads (is_touched e (document_of old.page) (document_of new.page)) old.page new.page

-- an edit was applied, or nothing is changed
abbrev pub Edits : Result (Unit {0}) EditError → Edit → Traced → Traced → Type 0
Edits (Ok done) e old new = EditsOnce e old new
Edits (Err (error.Refused fault)) e old new = (edited e (document_of old.page) ≡ Err fault) × (new ≡ old)
Edits (Err error.NoMemory) e old new = new ≡ old

-- ---- a page with its journal

module _ (old new : Held) (before after : Lists) where
  abbrev pub EditsPage : Result (Unit {0}) EditError → Edit → Type 0
  EditsPage r e = Edits r e (traced_by old before) (traced_by new after)

  abbrev pub TakesPageBack : ℕ → Type 0
  TakesPageBack n = TakesBack n (traced_by old before) (traced_by new after)

  abbrev pub StopsBack : ℕ → Type 0
  StopsBack n = StopsShort TakesBack n (traced_by old before) (traced_by new after)

  abbrev pub MakesPageAgain : ℕ → Type 0
  MakesPageAgain n = MakesAgain n (traced_by old before) (traced_by new after)

  abbrev pub StopsAgain : ℕ → Type 0
  StopsAgain n = StopsShort MakesAgain n (traced_by old before) (traced_by new after)

-- ---- an engine

abbrev pub traced : Standing → Traced
traced s = record { page = s.page; steps = s.steps }

-- the page and the steps are as they were, and whether it was laid out
pub record IsAsBefore (old new : Standing) : Type 0 where
  pub page : new.page ≡ old.page
  pub steps : new.steps ≡ old.steps
  pub laid : new.laid ≡ old.laid

-- An edit was applied: the history is the one that it makes. What the edit touches is let go, and no more; with a leaf that it touches it touches the parent.
pub record IsEdited (e : Edit) (old new : Standing) : Type 0 where
  pub history : edited_history e (history_of old) ≡ Ok (history_of new)
  pub steps : new.steps ≡ next_steps e (doc_of old) old.steps
  pub spreads : Spreads (touched_between e old.steps (doc_of old) (doc_of new)) old.page new.page
  pub laid : new.laid ≡ false

-- memory was wanting: nothing is changed; or of undo and redo some of the changes were made, each whole
abbrev pub StopsAt : Edit → Standing → Standing → Type 0
StopsAt (edit.Undo n at) old new = StopsShort TakesBack n (traced old) (traced new) × (new.laid ≡ false)
StopsAt (edit.Redo n at) old new = StopsShort MakesAgain n (traced old) (traced new) × (new.laid ≡ false)
StopsAt e old new = IsAsBefore old new

-- an Ok leaves the history that the edit makes; a refusal is the one of the definition, and changes nothing
abbrev pub Applies : Result (Unit {0}) EditError → Edit → Standing → Standing → Type 0
Applies (Ok done) e old new = IsEdited e old new
Applies (Err (error.Refused fault)) e old new = (edited_history e (history_of old) ≡ Err fault) × IsAsBefore old new
Applies (Err error.NoMemory) e old new = StopsAt e old new

-- ---- a layout

-- two engines hold the same document, with the same steps, after as many calls of apply
pub record IsSame (old new : Standing) : Type 0 where
  pub document : doc_of new ≡ doc_of old
  pub steps : new.steps ≡ old.steps
  pub calls : new.calls ≡ old.calls

-- ---- a line

-- the history that was made is held now, with these steps, and what was touched is let go
pub record Leaves (answer : Result History Said) (after : Steps) (touched : List ℕ → Bool) (old new : Standing) : Type 0 where
  pub made : answer ≡ Ok (history_of new)
  pub steps : new.steps ≡ after
  pub spreads : Spreads touched old.page new.page

-- none was made: nothing is changed, and this is said
pub record Says (said : Said) (answer : Result History Said) (old new : Standing) : Type 0 where
  pub made : answer ≡ Err said
  pub before : IsAsBefore old new

-- an edit or a hit was answered
abbrev pub AnswersEdit : Option Said → Edit → Standing → Standing → Type 0
AnswersEdit None e old new =
    Leaves (answer_to e (history_of old)) (next_steps e (doc_of old) old.steps) (touched_between e old.steps (doc_of old) (doc_of new)) old new
AnswersEdit (Some said) e old new = Says said (answer_to e (history_of old)) old new

-- a line was answered
abbrev pub AnswersLine : Option Said → Line → Standing → Standing → Type 0
AnswersLine None line old new = Leaves (made_of (history_of old) line) (steps_by (course_of old) line) (touched_by (course_of old) line) old new
AnswersLine (Some said) line old new = Says said (made_of (history_of old) line) old new

-- a line was answered: it leads to this course, and it is a refusal or none
pub record IsAnswered (c : Course) (line : Line) (now : Course) (bad : Bool) : Type 0 where
  pub next : now ≡ next_course c line
  pub refused : bad ≡ is_refused (made_by c line)
