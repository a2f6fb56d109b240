-- What an edit and a change of a held document answer and leave.
use Rattle.std.specs.Prelude.{◌≡◌, ℤ, Result, Ok, Err, ⊤}
use Rattle.text_scan.specs.declared.line.Fault.{Fault}
use Rattle.plain_tree.specs.Trees.{leafless}
use Rattle.doc_text.specs.declared.document.Doc.{Doc}
use Rattle.doc_text.specs.declared.edit.Edit.{Edit}
use Rattle.doc_text.specs.Edits.{edited}
use Rattle.edit_journal.specs.declared.change.Change.{Change}
use Rattle.edit_journal.specs.declared.change.Change.TheVariants as change
use Rattle.edit_journal.specs.declared.change.Step.{Step}
use Rattle.edit_journal.specs.Changes.{turned}
use Rattle.edit_journal.specs.Steps.{step_for}
use Rattle.page_tree.specs.declared.error.EditError.{EditError}
use Rattle.page_tree.specs.declared.error.EditError.TheVariants as error
use Rattle.page_tree.specs.Fits.{Fits}
use Rattle.page_tree.specs.Pages.{Held, IsAround, document_of}

-- ---- an edit

-- the step is that of an edit which the definition accepts, and its change fits the document
pub record IsStep (e : Edit) (doc : Doc) (step : Step) : Type 0 where
  pub is : step ≡ step_for doc e
  pub made : edited e doc ≡ Ok (turned step.forward doc)
  pub fits : Fits step.forward doc

-- an Ok is the step; a refusal is the one of the definition
abbrev pub Judges : Result Step EditError → Edit → Doc → Type 0
Judges (Ok step) e doc = IsStep e doc step
Judges (Err (error.Refused fault)) e doc = edited e doc ≡ Err fault
Judges (Err error.NoMemory) e doc = ⊤

-- an Ok leaves the edited document; a refusal is the one of the definition; and without an Ok nothing is changed
abbrev pub Applies : Result (Unit {0}) EditError → Result Doc Fault → Held → Held → Type 0
Applies (Ok x) due old new = due ≡ Ok (document_of new)
Applies (Err (error.Refused fault)) due old new = (due ≡ Err fault) × (new ≡ old)
Applies (Err error.NoMemory) due old new = new ≡ old

-- ---- a change

-- the version stays, and so does the size of the viewport but where the change is of it
pub record HasSize (across down : ℤ) (old new : Held) : Type 0 where
  pub version : new.version ≡ old.version
  pub width : new.width ≡ across
  pub height : new.height ≡ down

abbrev pub IsTurnedAround : Change → Held → Held → Type 0
IsTurnedAround (change.Style name values) old new = IsAround old new
IsTurnedAround (change.Take name) old new = IsAround old new
IsTurnedAround (change.Bring parent index node) old new = IsAround old new
IsTurnedAround (change.Shift name parent index) old new = IsAround old new
IsTurnedAround (change.Kind name kind) old new = IsAround old new
IsTurnedAround (change.View width height) old new = HasSize width height old new

-- the document is the same, and so is all that is kept; where nodes were brought and taken out again, others were made meanwhile
pub record IsAsBefore (old new : Held) : Type 0 where
  pub document : document_of new ≡ document_of old
  pub tree : new.nodes.tree ≡ old.nodes.tree

-- the change brings no more than one node
abbrev pub BringsAtMostOne : Change → Type 0
BringsAtMostOne (change.Style name values) = ⊤
BringsAtMostOne (change.Take name) = ⊤
BringsAtMostOne (change.Bring parent index node) = node.children ≡ leafless
BringsAtMostOne (change.Shift name parent index) = ⊤
BringsAtMostOne (change.Kind name kind) = ⊤
BringsAtMostOne (change.View width height) = ⊤

-- after a change that wanted memory all is as before; but for one that brings more than one node nothing at all is changed
pub record IsUndone (c : Change) (old new : Held) : Type 0 where
  pub before : IsAsBefore old new
  pub same : BringsAtMostOne c → new ≡ old
