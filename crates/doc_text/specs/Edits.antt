-- The document after an edit, or why the edit is refused (own rule).
use Rattle.std.specs.Prelude.{ℕ, ℤ, ◌+◌, ◌==◌, Bool, true, false, not, ◌||◌, ◌&&◌, nat_lt, List, [], ◌∷◌, Option, Some, None, Result, Ok, Err}
use Rattle.std.specs.Str.{bytes_eq}
use Rattle.std.specs.FinMap as map
use Rattle.text_scan.specs.declared.line.Fault.{Fault}
use Rattle.text_scan.specs.declared.line.Place.{Place}
use Rattle.style_types.specs.declared.prop.Prop.{Prop}
use Rattle.track_text.specs.Gives.{fault_at}
use Rattle.plain_tree.specs.Trees.{Trees, leafless, tree, size_of, count_of, height_of}
use Rattle.doc_text.specs.declared.document.Doc.{Doc}
use Rattle.doc_text.specs.declared.edit.Edit.{Edit}
use Rattle.doc_text.specs.declared.edit.Edit.TheVariants as edit
use Rattle.doc_text.specs.declared.edit.Named.{Named}
use Rattle.doc_text.specs.declared.kind.Kind.{Kind}
use Rattle.doc_text.specs.Label.{Label, DeclaredMap}
use Rattle.doc_text.specs.View.{label_of}
use Rattle.doc_text.specs.Texts.{Word}
use Rattle.value_text.specs.ValueText.{Settings}
use Rattle.doc_text.specs.NodeText.{with_settings}
use Rattle.doc_text.specs.Growth.{holds}
use Rattle.doc_text.specs.Documents.{node_limit, is_leaf, plain_of}
use Rattle.doc_text.specs.Named.{relabelled, inserted, removed, moved, tree_at, below_at, level_of}

-- the tree of a document: its root and all below it
abbrev pub tree_of : Doc → Trees Label
tree_of doc = tree (label_of doc.root) doc.root.children leafless

-- ---- why an edit is refused: for each number the place where it comes

abbrev pub where_ : Bool → Place → Option Place
where_ true at = Some at
where_ false at = None

abbrev pub or_where : Option Place → Option Place → Option Place
or_where None other = other
or_where (Some at) other = Some at

abbrev pub no_node : Trees Label → Named → Option Place
no_node trees named = where_ (not (holds trees named.name)) named.at

-- 21, `unknown-name`: a name that must name a node names none
abbrev pub unknown_name : Doc → Edit → Option Place
unknown_name doc (edit.Set named settings) = no_node (tree_of doc) named
unknown_name doc (edit.Unset named props) = no_node (tree_of doc) named
unknown_name doc (edit.Insert parent index at named node) = no_node (tree_of doc) parent
unknown_name doc (edit.Remove named) = no_node (tree_of doc) named
unknown_name doc (edit.Move named parent index at) = or_where (no_node (tree_of doc) named) (no_node (tree_of doc) parent)
unknown_name doc (edit.Content named kind) = no_node (tree_of doc) named
unknown_name doc (edit.Viewport width height) = None
unknown_name doc (edit.Undo times at) = None
unknown_name doc (edit.Redo times at) = None
unknown_name doc (edit.Hit x y) = None

abbrev pub is_root : Doc → Named → Option Place
is_root doc named = where_ (bytes_eq doc.root.name named.name) named.at

-- 22, `root`: the root is removed or moved
abbrev pub root : Doc → Edit → Option Place
root doc (edit.Remove named) = is_root doc named
root doc (edit.Move named parent index at) = is_root doc named
root doc e = None

-- 23, `cycle`: the new parent is the moved node or stands below it
abbrev pub cycle : Doc → Edit → Option Place
cycle doc (edit.Move named parent index at) = where_ (holds (tree_at named.name (tree_of doc)) parent.name) parent.at
cycle doc e = None

-- A node that is inserted or moved stands under its parent in what is left without it: the whole tree, or that without the
-- moved tree.
abbrev pub left_of : Named → Doc → Trees Label
left_of named doc = removed named.name (tree_of doc)

-- how many children a node has
abbrev pub child_count : Word → Trees Label → ℕ
child_count name trees = count_of (below_at name trees)

abbrev pub past_last : Trees Label → Named → ℕ → Place → Option Place
past_last trees parent index at = where_ (nat_lt (child_count parent.name trees) index) at

-- 24, `bad-index`: the index is greater than the number of children, which a move counts after the node was taken out
abbrev pub bad_index : Doc → Edit → Option Place
bad_index doc (edit.Insert parent index at named node) = past_last (tree_of doc) parent index at
bad_index doc (edit.Move named parent index at) = past_last (left_of named doc) parent index at
bad_index doc e = None

-- 6, `duplicate-name`: a node of the new name is there
abbrev pub duplicate_name : Doc → Edit → Option Place
duplicate_name doc (edit.Insert parent index at named node) = where_ (holds (tree_of doc) named.name) named.at
duplicate_name doc e = None

-- what stands so many levels under a parent passes level 64
abbrev pub passes_levels : Trees Label → Named → ℕ → Bool
passes_levels trees parent levels = nat_lt 64 (level_of parent.name trees + levels)

-- 12, `too-deep`: a node would stand on level 65
abbrev pub too_deep : Doc → Edit → Option Place
too_deep doc (edit.Insert parent index at named node) = where_ (passes_levels (tree_of doc) parent 1) named.at
too_deep doc (edit.Move named parent index at) = where_ (passes_levels (left_of named doc) parent (height_of (tree_at named.name (tree_of doc)))) named.at
too_deep doc e = None

-- the number of children of one node is more than the version allows
abbrev pub are_too_many : ℕ → ℕ → Bool
are_too_many version children = version == 2 && nat_lt 65536 children

abbrev pub passes_children : ℕ → Trees Label → Named → Bool
passes_children version trees parent = are_too_many version (child_count parent.name trees + 1)

-- 13, `too-many-nodes`: there would be more nodes, or children of one parent, than the version allows
abbrev pub too_many_nodes : Doc → Edit → Option Place
too_many_nodes doc (edit.Insert parent index at named node) =
    where_ (nat_lt (node_limit doc.version) (size_of (tree_of doc) + 1) || passes_children doc.version (tree_of doc) parent) named.at
too_many_nodes doc (edit.Move named parent index at) = where_ (passes_children doc.version (left_of named doc) parent) named.at
too_many_nodes doc e = None

abbrev pub is_leaf_top : Trees Label → Bool
is_leaf_top leafless = false
is_leaf_top (tree x below after) = is_leaf x.kind

abbrev pub is_leaf_at : Named → Trees Label → Bool
is_leaf_at named trees = is_leaf_top (tree_at named.name trees)

-- 14, `leaf-has-children`: the parent is a leaf, or what becomes one has children
abbrev pub leaf_has_children : Doc → Edit → Option Place
leaf_has_children doc (edit.Insert parent index at named node) = where_ (is_leaf_at parent (tree_of doc)) parent.at
leaf_has_children doc (edit.Move named parent index at) = where_ (is_leaf_at parent (left_of named doc)) parent.at
leaf_has_children doc (edit.Content named kind) = where_ (nat_lt 0 (child_count named.name (tree_of doc))) named.at
leaf_has_children doc e = None

abbrev pub Row : Type 0
Row = ℕ × Option Place

-- the first row that comes tells the fault
abbrev pub first_refusal : List Row → Option Fault
first_refusal [] = None
first_refusal (row ∷ rows) = elim row.1 [ Some at ↦ Some (fault_at row.0 at) | None ↦ first_refusal rows ]

abbrev pub refusals : Doc → Edit → List Row
refusals doc e =
    (21, unknown_name doc e) ∷ (22, root doc e) ∷ (23, cycle doc e) ∷ (24, bad_index doc e)
    ∷ (6, duplicate_name doc e) ∷ (12, too_deep doc e) ∷ (13, too_many_nodes doc e) ∷ (14, leaf_has_children doc e) ∷ []

-- ---- what an edit makes of a document

abbrev pub without_props : List Prop → DeclaredMap → DeclaredMap
without_props [] style = style
without_props (p ∷ props) style = without_props props (map.remove style p)

-- the properties are set one after another, or no longer set; the node has this kind
abbrev pub with_set : Settings → Label → Label
with_set settings x = record x { style = with_settings settings x.style }

abbrev pub with_unset : List Prop → Label → Label
with_unset props x = record x { style = without_props props x.style }

abbrev pub with_kind : Kind → Label → Label
with_kind kind x = record x { kind = kind }

-- the trees after an edit
abbrev pub edited_trees : Edit → Trees Label → Trees Label
edited_trees (edit.Set named settings) trees = relabelled named.name (with_set settings) trees
edited_trees (edit.Unset named props) trees = relabelled named.name (with_unset props) trees
edited_trees (edit.Insert parent index at named node) trees = inserted parent.name index (label_of node) trees
edited_trees (edit.Remove named) trees = removed named.name trees
edited_trees (edit.Move named parent index at) trees = moved named.name parent.name index trees
edited_trees (edit.Content named kind) trees = relabelled named.name (with_kind kind) trees
edited_trees (edit.Viewport width height) trees = trees
edited_trees (edit.Undo times at) trees = trees
edited_trees (edit.Redo times at) trees = trees
edited_trees (edit.Hit x y) trees = trees

abbrev pub size_after : Edit → ℤ × ℤ → ℤ × ℤ
size_after (edit.Viewport width height) size = (width, height)
size_after e size = size

abbrev pub with_root : Doc → ℤ × ℤ → Trees Label → Doc
with_root doc size leafless = doc
with_root doc size (tree x below after) = record { version = doc.version; width = size.0; height = size.1; root = plain_of x below }

abbrev pub applied : Edit → Doc → Doc
applied e doc = with_root doc (size_after e (doc.width, doc.height)) (edited_trees e (tree_of doc))

-- the document after an edit, or the fault of the edit
abbrev pub edited : Edit → Doc → Result Doc Fault
edited e doc = elim (first_refusal (refusals doc e)) [ Some fault ↦ Err fault | None ↦ Ok (applied e doc) ]
