-- What is said of edits.
use Rattle.std.specs.Prelude.{◌≡◌, ℕ, List, [], ◌∷◌, ◌++◌, Some, None, Result, Ok, Err, ⊤}
use Rattle.text_scan.specs.declared.line.Fault.{Fault}
use Rattle.track_text.specs.Gives.{fault_at}
use Rattle.doc_text.specs.declared.edit.Edit.{Edit}
use Rattle.doc_text.specs.declared.edit.Edit.TheVariants as edit
use Rattle.doc_text.specs.Edits.{Row}
use Rattle.doc_text.specs.Histories.{History}
use Rattle.text_scan.specs.declared.line.Place.{Place}

-- none of the rows comes
abbrev pub NoneComes : List Row → Type 0
NoneComes [] = ⊤
NoneComes (row ∷ rows) = (row.1 ≡ None) × NoneComes rows

-- the fault is that of a row, and no row before it comes
pub record IsFirst (rows : List Row) (fault : Fault) : Type 0 where
  pub before : List Row
  pub after : List Row
  pub at : Place
  pub number : ℕ
  pub all : rows ≡ before ++ (number, Some at) ∷ after
  pub none : NoneComes before
  pub told : fault ≡ fault_at number at

-- The edit is a change of the document by itself. What undo and redo make of it is told by what was done before; a hit asks which
-- box lies under a point.
abbrev pub IsChange : Edit → Type 0
IsChange (edit.Undo times at) = ⊥
IsChange (edit.Redo times at) = ⊥
IsChange (edit.Hit x y) = ⊥
IsChange e = ⊤

abbrev pub AreChanges : List Edit → Type 0
AreChanges [] = ⊤
AreChanges (e ∷ es) = IsChange e × AreChanges es

-- the document, and those that stood before it, are those of the first history
abbrev pub IsBack : History → Result History Fault → Type 0
IsBack h (Ok made) = (made.past ≡ h.past) × (made.doc ≡ h.doc)
IsBack h (Err fault) = ⊥

-- an inserted node has the name that the edit gives it
abbrev pub NamesItsNode : Edit → Type 0
NamesItsNode (edit.Insert parent index at named node) = node.name ≡ named.name
NamesItsNode e = ⊤
