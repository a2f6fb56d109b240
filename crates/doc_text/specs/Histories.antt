-- A document with what was done and taken back before (own rule).
use Rattle.std.specs.Prelude.{ℕ, zero, suc, nat_lt, if◌then◌else◌, List, [], ◌∷◌, length, Result, Ok, Err}
use Rattle.text_scan.specs.declared.line.Fault.{Fault}
use Rattle.text_scan.specs.declared.line.Place.{Place}
use Rattle.track_text.specs.Gives.{fault_at}
use Rattle.doc_text.specs.declared.document.Doc.{Doc}
use Rattle.doc_text.specs.declared.edit.Edit.{Edit}
use Rattle.doc_text.specs.declared.edit.Edit.TheVariants as edit
use Rattle.doc_text.specs.Edits.{edited}
use Rattle.doc_text.specs.Texts.{◌>>=◌}

-- the document, those that stood before it, and those that were taken back; the last one of each list is its first
pub record History : Type 0 where
  pub past : List Doc
  pub doc : Doc
  pub future : List Doc

-- nothing was done yet
abbrev pub begins : Doc → History
begins doc = record { past = []; doc = doc; future = [] }

-- an edit was accepted
abbrev pub with_edited : History → Doc → History
with_edited h doc = record { past = h.doc ∷ h.past; doc = doc; future = [] }

-- the history after so many edits are taken back, the last one first
abbrev pub undone : ℕ → List Doc → Doc → List Doc → History
undone zero past doc future = record { past = past; doc = doc; future = future }
undone (suc n) [] doc future = record { past = []; doc = doc; future = future }
undone (suc n) (before ∷ past) doc future = undone n past before (doc ∷ future)

-- the history after so many edits that were taken back are made again, the one first that was taken back last
abbrev pub redone : ℕ → List Doc → Doc → List Doc → History
redone zero past doc future = record { past = past; doc = doc; future = future }
redone (suc n) past doc [] = record { past = past; doc = doc; future = [] }
redone (suc n) past doc (after ∷ future) = redone n (doc ∷ past) after future

-- 25, `nothing-to-undo`, or 26, `nothing-to-redo`, at the number, where fewer documents stand there
abbrev has_as_many : ℕ → List Doc → ℕ → Place → History → Result History Fault
has_as_many number docs n at made = if nat_lt (length docs) n then Err (fault_at number at) else Ok made

-- the history after an edit, or the fault of the edit; a hit leaves it as it is
abbrev pub edited_history : Edit → History → Result History Fault
edited_history (edit.Undo n at) h = has_as_many 25 h.past n at (undone n h.past h.doc h.future)
edited_history (edit.Redo n at) h = has_as_many 26 h.future n at (redone n h.past h.doc h.future)
edited_history (edit.Hit x y) h = Ok h
edited_history e h = edited e h.doc >>= λ doc. Ok (with_edited h doc)

-- the history after edits, one after another, or the fault of the first one that is refused
abbrev pub history_after : List Edit → History → Result History Fault
history_after [] h = Ok h
history_after (e ∷ es) h = edited_history e h >>= history_after es
