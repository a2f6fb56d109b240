-- The steps that led to a document, and what each edit line makes of them: which names the line touches follows from them (own rule).
use Rattle.std.specs.Prelude.{ℕ, zero, suc, ◌||◌, Bool, false, refl, List, [], ◌∷◌, Result, Ok, Err, if◌then◌else◌}
use Rattle.std.specs.Coded.{Coded, code_by, coded×, coded_list}
use Rattle.text_scan.specs.declared.line.Line.{Line}
use Rattle.text_scan.specs.declared.line.Fault.{Fault}
use Rattle.text_scan.specs.Tokens.{is_skipped}
use Rattle.doc_text.specs.declared.document.Doc.{Doc}
use Rattle.doc_text.specs.declared.edit.Edit.{Edit}
use Rattle.doc_text.specs.declared.edit.Edit.TheVariants as edit
use Rattle.doc_text.specs.EditText.{edit_of}
use Rattle.doc_text.specs.Histories.{History, begins}
use Rattle.edit_journal.specs.declared.change.Change.{Change}
use Rattle.edit_journal.specs.declared.change.Step.{Step}
use Rattle.edit_journal.specs.contracts.change.Step as step
use Rattle.edit_journal.specs.Changes.{turned}
use Rattle.edit_journal.specs.Steps.{step_for}
use Rattle.page_tree.specs.Reach.{is_touched, touches}
use Rattle.session.specs.Script.{doc_made, made_of, next_history}
use Rattle.session.specs.declared.said.Said.{Said}

-- ---- steps

-- the steps that were made, and those of them that were taken back; the last one of each list is its first
pub record Steps : Type 0 where
  pub done : List Step
  pub undone : List Step

abbrev pub steps_code : Coded Steps
steps_code =
    code_by (List Step × List Step) (coded× (coded_list step.the_row.coded) (coded_list step.the_row.coded)) (λ s. (s.done, s.undone))
    (λ p. record { done = p.0; undone = p.1 }) (λ _. refl)

abbrev pub no_steps : Steps
no_steps = record { done = []; undone = [] }

-- one step more
abbrev pub with_step : Step → Steps → Steps
with_step step steps = record { done = step ∷ steps.done; undone = [] }

-- the steps after so many of them are taken back
abbrev pub taken_back : ℕ → List Step → List Step → Steps
taken_back zero done undone = record { done = done; undone = undone }
taken_back (suc n) [] undone = record { done = []; undone = undone }
taken_back (suc n) (step ∷ done) undone = taken_back n done (step ∷ undone)

-- the steps after so many that were taken back are made again
abbrev pub made_again : ℕ → List Step → List Step → Steps
made_again zero done undone = record { done = done; undone = undone }
made_again (suc n) done [] = record { done = done; undone = [] }
made_again (suc n) done (step ∷ undone) = made_again n (step ∷ done) undone

-- the steps after an edit of a document that is accepted
abbrev pub next_steps : Edit → Doc → Steps → Steps
next_steps (edit.Undo n at) doc steps = taken_back n steps.done steps.undone
next_steps (edit.Redo n at) doc steps = made_again n steps.done steps.undone
next_steps (edit.Hit x y) doc steps = steps
next_steps e doc steps = with_step (step_for doc e) steps

-- ---- the changes of steps, one after another

abbrev pub back_of : Step → Change
back_of step = step.back

abbrev pub forward_of : Step → Change
forward_of step = step.forward

-- the documents that changes of the steps make, one after another
abbrev pub docs_along : (Step → Change) → List Step → Doc → List Doc
docs_along change [] doc = []
docs_along change (step ∷ steps) doc = turned (change step) doc ∷ docs_along change steps (turned (change step) doc)

-- what so many of them touch, each between its two documents
abbrev pub touched_along : (Step → Change) → ℕ → List Step → Doc → List ℕ → Bool
touched_along change zero steps doc name = false
touched_along change (suc n) [] doc name = false
touched_along change (suc n) (step ∷ steps) doc name =
    touches (change step) doc (turned (change step) doc) name || touched_along change n steps (turned (change step) doc) name

-- the history of a document to which these steps led
abbrev pub history_by : Steps → Doc → History
history_by steps doc = record { past = docs_along back_of steps.done doc; doc = doc; future = docs_along forward_of steps.undone doc }

-- what an edit touches that made one document of another: with undo and redo what one of their changes touches
abbrev pub touched_between : Edit → Steps → Doc → Doc → List ℕ → Bool
touched_between (edit.Undo n at) steps old new name = touched_along back_of n steps.done old name
touched_between (edit.Redo n at) steps old new name = touched_along forward_of n steps.undone old name
touched_between e steps old new name = is_touched e old new name

-- ---- edit lines

-- a history, and the steps that led to its document
pub record Course : Type 0 where
  pub history : History
  pub steps : Steps

-- nothing was done yet
abbrev pub begun : Doc → Course
begun doc = record { history = begins doc; steps = no_steps }

-- What a line touches that made this of a history, where it reads as an edit: nothing where no layout follows it.
abbrev pub touched_to : Result History Said → Result Edit Fault → Course → List ℕ → Bool
touched_to (Err said) read c name = false
touched_to (Ok next) (Err fault) c name = false
touched_to (Ok next) (Ok e) c name = touched_between e c.steps c.history.doc next.doc name

-- what the edit of a line touches; a refused one touches nothing, and so does a hit
unfoldable pub touched_by : Course → Line → List ℕ → Bool
touched_by c line name = touched_to (made_of c.history line) (edit_of c.history.doc.version line) c name

-- the steps after the edit of a line
abbrev pub steps_to : Result History Said → Result Edit Fault → Course → Steps
steps_to (Err said) read c = c.steps
steps_to (Ok next) (Err fault) c = c.steps
steps_to (Ok next) (Ok e) c = next_steps e c.history.doc c.steps

unfoldable pub steps_by : Course → Line → Steps
steps_by c line = steps_to (made_of c.history line) (edit_of c.history.doc.version line) c

-- what a line makes of the document of a course
abbrev pub made_by : Course → Line → Result Doc Said
made_by c line = doc_made (made_of c.history line)

-- the course after a line, and after lines, of which those that are skipped are no edits
abbrev pub next_course : Course → Line → Course
next_course c line = record { history = next_history c.history (made_of c.history line); steps = steps_by c line }

abbrev pub last_course : Course → List Line → Course
last_course c [] = c
last_course c (line ∷ lines) = if is_skipped line then last_course c lines else last_course (next_course c line) lines
