-- Many calls of an open document, one after another.
use Rattle.std.specs.Prelude.{◌≡◌, ℕ, ◌⊎◌, List, [], ◌∷◌, Result, Ok, Err, IfSome}
use Rattle.text_scan.specs.declared.line.Fault.{Fault}
use Rattle.doc_text.specs.declared.document.Doc.{Doc}
use Rattle.doc_text.specs.Histories.{History, begins}
use Rattle.session.specs.Boxes.{boxes_of}
use Rattle.open_document.specs.Calls.{IsEdited, edited_by}
use Rattle.open_document.specs.Opened.{Opened, boxes_in, laid_out}

-- A call that changes what is open, and was answered otherwise than by want of memory: an edit by its
-- line, or a layout. The other calls change nothing.
pub data Call : Type 0 where
  edited : List ℕ → Call
  laid : Call

-- an edit was refused
pub record IsRefusedEdit (bytes : List ℕ) (old new : Opened) : Type 0 where
  pub fault : Fault
  pub due : edited_by old.history bytes ≡ Err fault
  pub same : new ≡ old

-- what a call leaves
abbrev pub Answered : Call → Opened → Opened → Type 0
Answered (edited bytes) old new = IsEdited bytes old new ⊎ IsRefusedEdit bytes old new
Answered laid old new = new ≡ laid_out old

-- calls lead from one state to another
abbrev pub Lead : List Call → Opened → Opened → Type 0
Lead [] old new = new ≡ old
Lead (call ∷ calls) old new = (next : Opened) × Answered call old next × Lead calls next new

-- ---- what they come to

-- a refused edit changes nothing
abbrev pub or_same : History → Result History Fault → History
or_same h (Ok next) = next
or_same h (Err fault) = h

-- the history after calls: that of the edits alone, one after another
abbrev pub after_calls : List Call → History → History
after_calls [] h = h
after_calls (edited bytes ∷ calls) h = after_calls calls (or_same h (edited_by h bytes))
after_calls (laid ∷ calls) h = after_calls calls h

-- the document is the edited one, and boxes that can be read are those that it has from scratch
pub record IsFromScratch (doc : Doc) (calls : List Call) (o : Opened) : Type 0 where
  pub history : o.history ≡ after_calls calls (begins doc)
  pub boxes : IfSome (boxes_in o) (λ boxes. boxes ≡ boxes_of (after_calls calls (begins doc)).doc)
