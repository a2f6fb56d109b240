-- What stands in a generated document, also after edits.
use Rattle.std.specs.Prelude.{◌≡◌, ℕ, ◌<◌, true, false, Ok, ⊤}
use Rattle.std.specs.Str.{bytes_eq}
use Rattle.plain_tree.specs.Trees.{Trees, leafless, tree}
use Rattle.style_types.specs.declared.declared.DeclaredValue.{DeclaredValue}
use Rattle.style_types.specs.declared.prop.Prop.{Prop}
use Rattle.doc_text.specs.declared.document.Doc.{Doc}
use Rattle.doc_text.specs.declared.edit.Edit.{Edit}
use Rattle.doc_text.specs.declared.edit.Edit.TheVariants as edit
use Rattle.doc_text.specs.Label.{Label}
use Rattle.doc_text.specs.Texts.{Word}
use Rattle.doc_text.specs.Growth.{holds}
use Rattle.doc_text.specs.Edits.{tree_of, applied, edited}
use Rattle.doc_text.specs.Valid.{IsToldKind, IsDeclared, IsAmong}
use Rattle.page_maker.specs.Choices.{is_container}
use Rattle.page_maker.specs.Nodes.{name_of}

-- nothing stands below a node of this name
abbrev pub IsBare : Word → Trees Label → Type 0
IsBare name leafless = ⊤
IsBare name (tree x below after) = (bytes_eq x.name name ≡ true → below ≡ leafless) × (IsBare name below × IsBare name after)

-- all nodes are there, and nothing stands below those that are no containers
pub record IsMade (nodes : ℕ) (doc : Doc) : Type 0 where
  pub version : doc.version ≡ 1
  pub there : (i : ℕ) → i < nodes → holds (tree_of doc) (name_of i) ≡ true
  pub bare : (i : ℕ) → i < nodes → is_container nodes i ≡ false → IsBare (name_of i) (tree_of doc)

-- the edit is not refused, and all nodes are there after it
pub record StaysMade (nodes : ℕ) (e : Edit) (doc : Doc) : Type 0 where
  pub accepts : edited e doc ≡ Ok (applied e doc)
  pub made : IsMade nodes (applied e doc)

-- an edit that sets properties or changes a content, with values that a text of version 1 tells
abbrev pub IsToldChange : Edit → Type 0
IsToldChange (edit.Set named settings) = (setting : Prop × DeclaredValue) → IsAmong setting settings → IsDeclared 1 setting.0 setting.1
IsToldChange (edit.Content named kind) = IsToldKind kind
IsToldChange e = ⊥
