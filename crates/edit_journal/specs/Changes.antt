-- What a change makes of a document, and when it can be applied (own rule).
use Rattle.std.specs.Prelude.{◌≡◌, ℕ, ℤ, ◌≤◌, true, false, List, [], ◌∷◌, Option, Some, None, ⊤}
use Rattle.std.specs.Str.{bytes_eq}
use Rattle.std.specs.FinMap as map
use Rattle.style_types.specs.declared.prop.Prop.{Prop}
use Rattle.style_types.specs.declared.declared.DeclaredValue.{DeclaredValue}
use Rattle.plain_tree.specs.Trees.{Trees}
use Rattle.doc_text.specs.declared.document.Doc.{Doc}
use Rattle.doc_text.specs.declared.document.Plain.{Plain}
use Rattle.doc_text.specs.Label.{Label, DeclaredMap}
use Rattle.doc_text.specs.View.{trees_of}
use Rattle.doc_text.specs.Texts.{Word}
use Rattle.doc_text.specs.Growth.{holds}
use Rattle.doc_text.specs.Named.{relabelled, grafted, removed, moved, tree_at}
use Rattle.doc_text.specs.Edits.{tree_of, child_count, with_kind, with_root}
use Rattle.doc_text.specs.Valid.{IsShaped}
use Rattle.edit_journal.specs.declared.change.Change.{Change}
use Rattle.edit_journal.specs.declared.change.Change.TheVariants as change

-- ---- values

-- properties, each with the value that it is set to, or with none where it is no longer set
abbrev pub Values : Type 0
Values = List (Prop × Option DeclaredValue)

abbrev pub with_value : Prop → Option DeclaredValue → DeclaredMap → DeclaredMap
with_value p None style = map.remove style p
with_value p (Some value) style = map.insert style p value

-- the properties are set, or no longer set, one after another
abbrev pub with_values : Values → DeclaredMap → DeclaredMap
with_values [] style = style
with_values (entry ∷ values) style = with_values values (with_value entry.0 entry.1 style)

abbrev pub with_style : Values → Label → Label
with_style values x = record x { style = with_values values x.style }

-- ---- what a change makes of a document

-- the tree of a node: the node and all below it
abbrev pub tree_of_node : Plain → Trees Label
tree_of_node node = trees_of (node ∷ [])

-- the trees after a change
abbrev pub turned_trees : Change → Trees Label → Trees Label
turned_trees (change.Style name values) trees = relabelled name (with_style values) trees
turned_trees (change.Take name) trees = removed name trees
turned_trees (change.Bring parent index node) trees = grafted parent index (tree_of_node node) trees
turned_trees (change.Shift name parent index) trees = moved name parent index trees
turned_trees (change.Kind name kind) trees = relabelled name (with_kind kind) trees
turned_trees (change.View width height) trees = trees

-- the size of the viewport after a change
abbrev pub turned_size : Change → ℤ × ℤ → ℤ × ℤ
turned_size (change.View width height) size = (width, height)
turned_size change size = size

-- the document after a change
abbrev pub turned : Change → Doc → Doc
turned change doc = with_root doc (turned_size change (doc.width, doc.height)) (turned_trees change (tree_of doc))

-- ---- when a change can be applied

-- names differ, only containers have children, and levels, nodes and children are within the limits
abbrev pub IsSound : Doc → Type 0
IsSound doc = IsShaped doc.version (tree_of doc)

abbrev pub IsThere : Word → Doc → Type 0
IsThere name doc = holds (tree_of doc) name ≡ true

-- a node other than the root
pub record IsBelowRoot (name : Word) (doc : Doc) : Type 0 where
  pub there : IsThere name doc
  pub no_root : bytes_eq doc.root.name name ≡ false

-- a node, and an index that is at most the number of its children
pub record HasIndex (parent : Word) (index : ℕ) (trees : Trees Label) : Type 0 where
  pub there : holds trees parent ≡ true
  pub within : index ≤ child_count parent trees

-- a parent outside of the moved tree, and an index among its children in what is left without that tree
pub record CanShift (name parent : Word) (index : ℕ) (doc : Doc) : Type 0 where
  pub node : IsBelowRoot name doc
  pub parent_there : IsThere parent doc
  pub outside : holds (tree_at name (tree_of doc)) parent ≡ false
  pub within : index ≤ child_count parent (removed name (tree_of doc))

-- the nodes that a change names are there, the root is neither taken out nor moved, and an index is at most the number of
-- children
abbrev pub IsFound : Change → Doc → Type 0
IsFound (change.Style name values) doc = IsThere name doc
IsFound (change.Take name) doc = IsBelowRoot name doc
IsFound (change.Bring parent index node) doc = HasIndex parent index (tree_of doc)
IsFound (change.Shift name parent index) doc = CanShift name parent index doc
IsFound (change.Kind name kind) doc = IsThere name doc
IsFound (change.View width height) doc = ⊤

-- a change can be applied: what it names is found, and the document after it is valid
pub record CanTurn (change : Change) (doc : Doc) : Type 0 where
  pub found : IsFound change doc
  pub sound : IsSound (turned change doc)
