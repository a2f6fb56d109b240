-- What the calls of an open document answer and leave.
use Rattle.std.specs.Prelude.{◌≡◌, ℕ, ◌≤◌, ◌<◌, ℤ, ◌⊎◌, if◌then◌else◌, Bool, true, false, List, length, Option, None, Result, Ok, Err, ⊤}
use Rattle.text_scan.specs.declared.line.Fault.{Fault}
use Rattle.text_scan.specs.declared.line.Line.{Line}
use Rattle.text_scan.specs.Lines.{line_of, lines_of}
use Rattle.track_text.specs.Gives.{fault_at}
use Rattle.lunit.specs.declared.geometry.Rect.{Rect}
use Rattle.hit_index.specs.Hits.{hit_of, rects_of}
use Rattle.doc_text.specs.declared.document.Doc.{Doc}
use Rattle.doc_text.specs.declared.edit.Edit.{Edit}
use Rattle.doc_text.specs.declared.edit.Edit.TheVariants as edit
use Rattle.doc_text.specs.EditText.{edit_of}
use Rattle.doc_text.specs.Histories.{History, edited_history, redone, undone}
use Rattle.doc_text.specs.Texts.{◌>>=◌}
use Rattle.page_tree.specs.declared.error.EditError.{EditError}
use Rattle.page_tree.specs.declared.error.EditError.TheVariants as refusing
use Rattle.session.specs.Boxes.{boxes_of}
use Rattle.session.specs.Input.{limit}
use Rattle.session.specs.Printing.{print}
use Rattle.session.specs.Script.{document_of_lines}
use Rattle.open_document.specs.Changed.{rect_in}
use Rattle.open_document.specs.Opened.{Opened, beginning, doc_of, where_laid, with_history}
use Rattle.open_document.specs.declared.errors.OpenError.{OpenError}
use Rattle.open_document.specs.declared.errors.OpenError.TheVariants as opening

-- ---- opening

-- the document that a whole text is, or its first fault
abbrev pub document_in : List ℕ → Result Doc Fault
document_in text = document_of_lines (lines_of text)

-- the text is not too long, and this is the document that it is, which nothing was done with
pub record IsOpened (text : List ℕ) (o : Opened) : Type 0 where
  pub within : length text ≤ limit
  pub read : document_in text ≡ Ok (doc_of o)
  pub is : o ≡ beginning (doc_of o)

pub record IsRefused (text : List ℕ) (fault : Fault) : Type 0 where
  pub within : length text ≤ limit
  pub read : document_in text ≡ Err fault

-- the document that was read, or why none was: its first fault, or the text is longer than any that
-- is read; or memory was wanting, which says nothing
abbrev pub ReadsDocument : List ℕ → Result Doc OpenError → Type 0
ReadsDocument text (Ok doc) = (length text ≤ limit) × (document_in text ≡ Ok doc)
ReadsDocument text (Err (opening.Refused fault)) = IsRefused text fault
ReadsDocument text (Err opening.TooLong) = limit < length text
ReadsDocument text (Err opening.NoMemory) = ⊤

-- the same of the document that was opened
abbrev pub Opens : List ℕ → Result Opened OpenError → Type 0
Opens text (Ok o) = IsOpened text o
Opens text (Err (opening.Refused fault)) = IsRefused text fault
Opens text (Err opening.TooLong) = limit < length text
Opens text (Err opening.NoMemory) = ⊤

-- ---- editing

-- the line that bytes are: the first of its script. A line feed in them is a byte that may not stand in a line
abbrev pub line_in : List ℕ → Line
line_in bytes = line_of 1 bytes

-- what an edit makes of a history. A hit is none: 20, `unknown-edit`, at the first byte of the line
abbrev pub next_by : History → Edit → Result History Fault
next_by h (edit.Hit x y) = Err (fault_at 20 (record { line = 1; column = 1 }))
next_by h e = edited_history e h

-- what the edit that a line tells makes of a history, or the fault of the line or of the edit
unfoldable pub edited_by : History → List ℕ → Result History Fault
edited_by h bytes = edit_of h.doc.version (line_in bytes) >>= next_by h

-- so many edits were to be moved, and fewer were, each whole
pub record MovesFewer (moved : ℕ → History) (n : ℕ) (old new : Opened) : Type 0 where
  pub count : ℕ
  pub fewer : count < n
  pub is : new ≡ with_history (moved count) old

-- memory was wanting: nothing is changed; or of the edits that were to be taken back or made again some were moved
abbrev pub StopsAt : Edit → Opened → Opened → Type 0
StopsAt (edit.Undo n at) old new =
    MovesFewer (λ count. undone count old.history.past old.history.doc old.history.future) n old new
StopsAt (edit.Redo n at) old new =
    MovesFewer (λ count. redone count old.history.past old.history.doc old.history.future) n old new
StopsAt e old new = new ≡ old

-- an edit that moves others, of which some can be moved where memory is wanting for more
abbrev pub moves : Edit → Bool
moves (edit.Undo n at) = true
moves (edit.Redo n at) = true
moves e = false

-- an edit was applied, or refused, or memory was wanting
abbrev pub Applies : Edit → Opened → Opened → Result (Unit {0}) EditError → Type 0
Applies e old new (Ok done) = (next_by old.history e ≡ Ok new.history) × (new ≡ with_history new.history old)
Applies e old new (Err (refusing.Refused fault)) = (next_by old.history e ≡ Err fault) × (new ≡ old)
Applies e old new (Err refusing.NoMemory) = StopsAt e old new

-- so it was at the edit that the bytes tell
pub record StopsAtEdit (bytes : List ℕ) (old new : Opened) : Type 0 where
  pub edit : Edit
  pub read : edit_of (doc_of old).version (line_in bytes) ≡ Ok edit
  pub stops : StopsAt edit old new

-- the document is edited
pub record IsEdited (bytes : List ℕ) (old new : Opened) : Type 0 where
  pub made : edited_by old.history bytes ≡ Ok new.history
  pub is : new ≡ with_history new.history old

-- the edited document, or the fault of the edit, and then nothing is changed; or memory was wanting
abbrev pub Edits : List ℕ → Opened → Opened → Result (Unit {0}) EditError → Type 0
Edits bytes old new (Ok done) = IsEdited bytes old new
Edits bytes old new (Err (refusing.Refused fault)) = (edited_by old.history bytes ≡ Err fault) × (new ≡ old)
Edits bytes old new (Err refusing.NoMemory) = (new ≡ old) ⊎ StopsAtEdit bytes old new

-- ---- reading

-- the index of the last box that contains a point, in units
abbrev pub hit_in : Opened → ℤ → ℤ → Option ℕ
hit_in o x y = if o.laid then hit_of (rects_of o.last) x y else None

-- the rectangle of a name
abbrev pub rect_of : Opened → List ℕ → Option Rect
rect_of o name = if o.laid then rect_in o.last name else None

-- what is printed: the boxes of the document as the first layout of a run
abbrev pub printed : Opened → Option (List ℕ)
printed o = where_laid o (print 0 (boxes_of (doc_of o)))
