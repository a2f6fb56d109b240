-- What each call answers, tells and leaves, by the document that C held before it.
use Rattle.std.specs.Prelude.{◌≡◌, ℕ, ℤ, ◌⊎◌, List, length, map, slice_get, Option, Some, None, Result, Ok, Err}
use Rattle.lunit.specs.declared.geometry.Rect.{Rect}
use Rattle.doc_writer.specs.Documents.{canonical}
use Rattle.page_tree.specs.declared.error.EditError.{EditError}
use Rattle.page_tree.specs.declared.error.EditError.TheVariants as refusing
use Rattle.hit_index.specs.Hits.{hit_of, rects_of}
use Rattle.session.specs.Boxes.{boxes_of}
use Rattle.session.specs.Printing.{Box}
use Rattle.open_document.specs.Changed.{rect_in}
use Rattle.open_document.specs.Opened.{Opened, changed_now, doc_of, laid_out, where_laid}
use Rattle.open_document.specs.Calls.{Edits, Opens, printed}
use Rattle.open_document.specs.declared.errors.OpenError.{OpenError}
use Rattle.open_document.specs.declared.errors.OpenError.TheVariants as opening
use Rattle.gridlay_c.specs.declared.told.BoxRect.{BoxRect}
use Rattle.gridlay_c.specs.declared.told.FaultAt.{FaultAt}
use Rattle.gridlay_c.specs.Numbers.{ok, none, refused, closed, stale, memory, over, long}
use Rattle.gridlay_c.specs.Rooms.{Fills}
use Rattle.gridlay_c.specs.Told.{box_told, told, untold}

-- ---- opening

abbrev pub open_answer : Result Opened OpenError → ℕ
open_answer (Ok o) = ok
open_answer (Err (opening.Refused fault)) = refused
open_answer (Err opening.TooLong) = over
open_answer (Err opening.NoMemory) = memory

abbrev pub open_fault : Result Opened OpenError → FaultAt
open_fault (Ok o) = untold
open_fault (Err (opening.Refused fault)) = told fault
open_fault (Err opening.TooLong) = untold
open_fault (Err opening.NoMemory) = untold

-- the document that was opened; where none was, what was held before
abbrev pub kept_open : Option Opened → Result Opened OpenError → Option Opened
kept_open old (Ok o) = Some o
kept_open old (Err error) = old

-- what the text is was opened
pub record HasOpened (text : List ℕ) (old new : Option Opened) (fault : FaultAt) (answer : ℕ)
    : Type 0 where
  pub opened : Result Opened OpenError
  pub opens : Opens text opened
  pub held : new ≡ kept_open old opened
  pub told : fault ≡ open_fault opened
  pub answered : answer ≡ open_answer opened

-- ---- a document that may not be there

-- there is none, which the answer says; or this holds of it
abbrev pub OrSays : {A : Type 0} → ℕ → Option A → ℕ → (A → Type 0) → Type 0
OrSays number None answer P = answer ≡ number
OrSays number (Some a) answer P = P a

-- a document is changed to another one, as the call does
abbrev pub OfHeld : Option Opened → Option Opened → ℕ → (Opened → Opened → Type 0) → Type 0
OfHeld None None answer P = answer ≡ closed
OfHeld (Some old) (Some new) answer P = P old new
OfHeld None (Some new) answer P = ⊥
OfHeld (Some old) None answer P = ⊥

-- ---- changing it

abbrev pub edit_answer : Result (Unit {0}) EditError → ℕ
edit_answer (Ok done) = ok
edit_answer (Err (refusing.Refused fault)) = refused
edit_answer (Err refusing.NoMemory) = memory

abbrev pub edit_fault : Result (Unit {0}) EditError → FaultAt
edit_fault (Ok done) = untold
edit_fault (Err (refusing.Refused fault)) = told fault
edit_fault (Err refusing.NoMemory) = untold

-- the edit was made that the line tells, or refused
pub record HasEdited (line : List ℕ) (old new : Opened) (fault : FaultAt) (answer : ℕ)
    : Type 0 where
  pub edited : Result (Unit {0}) EditError
  pub edits : Edits line old new edited
  pub told : fault ≡ edit_fault edited
  pub answered : answer ≡ edit_answer edited

abbrev pub EditsHeld : List ℕ → Option Opened → Option Opened → FaultAt → ℕ → Type 0
EditsHeld line held held' fault answer =
    OfHeld held held' answer (λ old new. HasEdited line old new fault answer)

-- it was laid out, or memory was wanting, and then nothing is changed
abbrev pub HasLaidOut : Opened → Opened → ℕ → Type 0
HasLaidOut old new answer =
    ((answer ≡ ok) × (new ≡ laid_out old)) ⊎ ((answer ≡ memory) × (new ≡ old))

abbrev pub LaysHeld : Option Opened → Option Opened → ℕ → Type 0
LaysHeld held held' answer = OfHeld held held' answer (λ old new. HasLaidOut old new answer)

-- ---- reading it

-- the boxes that its document has when it is laid out from scratch,
-- if it was laid out since the last edit
abbrev pub boxes_now : Opened → Option (List Box)
boxes_now o = where_laid o (boxes_of (doc_of o))

-- this holds of these boxes
abbrev pub OfBoxes : Option Opened → ℕ → (List Box → Type 0) → Type 0
OfBoxes held answer P = OrSays closed held answer (λ o. OrSays stale (boxes_now o) answer P)

abbrev pub TellsCount : Option Opened → ℕ → ℕ → Type 0
TellsCount held count answer = OfBoxes held answer (λ boxes. (count ≡ length boxes) × (answer ≡ ok))

abbrev pub TellsBoxes : Option Opened → List BoxRect → List BoxRect → ℕ → ℕ → Type 0
TellsBoxes held room room' count answer =
    OfBoxes held answer (λ boxes. Fills (map (λ box. box_told box.1) boxes) room room' count answer)

abbrev pub TellsBoxOf : Option Opened → List ℕ → BoxRect → ℕ → Type 0
TellsBoxOf held name found answer =
    OfBoxes held answer (λ boxes.
    OrSays none (rect_in boxes name) answer (λ rect. (found ≡ box_told rect) × (answer ≡ ok)))

abbrev pub TellsName : Option Opened → ℕ → List ℕ → List ℕ → ℕ → ℕ → Type 0
TellsName held index room room' count answer =
    OfBoxes held answer (λ boxes.
    OrSays none (slice_get boxes index) answer (λ box. Fills box.0 room room' count answer))

abbrev pub TellsChanged : Option Opened → List ℕ → List ℕ → ℕ → ℕ → Type 0
TellsChanged held room room' count answer =
    OrSays closed held answer (λ o.
    OrSays stale (changed_now o) answer (λ indices. Fills indices room room' count answer))

-- or memory was wanting
abbrev pub TellsHit : Option Opened → ℤ → ℤ → ℕ → ℕ → Type 0
TellsHit held x y index answer =
    (answer ≡ memory) ⊎ OfBoxes held answer (λ boxes.
    OrSays none (hit_of (rects_of boxes) x y) answer (λ found. (index ≡ found) × (answer ≡ ok)))

abbrev pub TellsPrint : Option Opened → List ℕ → List ℕ → ℕ → ℕ → Type 0
TellsPrint held room room' count answer =
    (answer ≡ memory) ⊎ OrSays closed held answer (λ o.
    OrSays stale (printed o) answer (λ text. Fills text room room' count answer))

-- the canonical text is told, or that there is none
abbrev pub TellsText : {E : Type 0} → Result (List ℕ) E → List ℕ → List ℕ → ℕ → ℕ → Type 0
TellsText (Ok text) room room' count answer = Fills text room room' count answer
TellsText (Err error) room room' count answer = answer ≡ long

abbrev pub TellsWritten : Option Opened → List ℕ → List ℕ → ℕ → ℕ → Type 0
TellsWritten held room room' count answer =
    (answer ≡ memory) ⊎ OrSays closed held answer (λ o.
    TellsText (canonical (doc_of o)) room room' count answer)
