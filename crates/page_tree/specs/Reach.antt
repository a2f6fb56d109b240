-- Which nodes a change reaches, by their names: all that it can change for layout, and so the nodes whose kept answers go (own rule).
use Rattle.std.specs.Prelude.{◌≡◌, refl, ℤ, Bool, true, false, not, ◌&&◌, ◌||◌, List, [], ◌∷◌, map, Option, Some, None, if◌then◌else◌, codes}
use Rattle.std.specs.List.{list_any}
use Rattle.std.specs.Ordering.{int_eq}
use Rattle.std.specs.Str.{bytes_eq}
use Rattle.std.specs.FinMap as finmap
use Rattle.plain_tree.specs.Trees.{Trees, leafless, tree}
use Rattle.style_types.specs.Computed.{font_of}
use Rattle.style_types.specs.Table.{class_in_table}
use Rattle.style_types.specs.declared.declared.DeclaredValue.{DeclaredValue}
use Rattle.style_types.specs.declared.prop.Class.{Class}
use Rattle.style_types.specs.declared.prop.Class.TheVariants as class
use Rattle.style_types.specs.declared.prop.Prop.{Prop}
use Rattle.style_types.specs.declared.prop.Prop.TheVariants as prop
use Rattle.tree_rules.specs.Chains.{is_subgrid}
use Rattle.tree_rules.specs.Documents.{first_font}
use Rattle.tree_rules.specs.Labels.{template_in}
use Rattle.doc_text.specs.declared.document.Doc.{Doc}
use Rattle.doc_text.specs.declared.edit.Edit.{Edit}
use Rattle.doc_text.specs.declared.kind.Kind.{Kind}
use Rattle.doc_text.specs.declared.kind.Kind.TheVariants as kind
use Rattle.doc_text.specs.Documents.{is_leaf}
use Rattle.doc_text.specs.Edits.{is_leaf_top, tree_of}
use Rattle.doc_text.specs.Growth.{holds}
use Rattle.doc_text.specs.Label.{Label}
use Rattle.doc_text.specs.Named.{below_at, has_top, tree_at}
use Rattle.doc_text.specs.Texts.{Word}
use Rattle.edit_journal.specs.declared.change.Change.{Change}
use Rattle.edit_journal.specs.declared.change.Change.TheVariants as change
use Rattle.edit_journal.specs.Changes.{tree_of_node}
use Rattle.edit_journal.specs.Steps.{forward_of}
use Rattle.node_arena.specs.declared.number.NodeId.{NodeId}
use Rattle.node_arena.specs.Numbers.{EachNode, value_at}
use Rattle.placing.specs.declared.node.Node.{Node}
use Rattle.placing.specs.Kept.{kept_at}
use Rattle.placing.specs.Nodes.{NodeTrees}
use Rattle.reach_frame.specs.Marks.{is_reached}
use Rattle.page_tree.specs.Fonts.{root_font}
use Rattle.page_tree.specs.Pages.{Held, document_of}

-- ---- nodes of a document

abbrev pub is_grid : Kind → Bool
is_grid kind.Grid = true
is_grid kind.Flex = false
is_grid (kind.Leaf content) = false

abbrev pub tells_subgrid : Option DeclaredValue → Bool
tells_subgrid None = false
tells_subgrid (Some d) = is_subgrid (template_in d.value)

-- a grid container with `subgrid` as at least one of its templates, whatever its parent is (CSS Grid 2, section 9)
abbrev pub is_subgrid_node : Label → Bool
is_subgrid_node x = is_grid x.kind && (tells_subgrid (finmap.get x.style prop.GridTemplateColumns) || tells_subgrid (finmap.get x.style prop.GridTemplateRows))

-- the node of the second name has that of the first as a child
abbrev pub is_parent : Trees Label → Word → Word → Bool
is_parent leafless child name = false
is_parent (tree x below after) child name = (bytes_eq x.name name && has_top below child) || (is_parent below child name || is_parent after child name)

-- the font size of the node of a name among trees below one of the font size `parent` (CSS Fonts 4, 2.5); `other` where there is none
abbrev pub font_below : ℤ → ℤ → Word → Trees Label → ℤ → ℤ
font_below parent root name leafless other = other
font_below parent root name (tree x below after) other =
    if bytes_eq x.name name then font_of parent root x.style
    else font_below (font_of parent root x.style) root name below (font_below parent root name after other)

abbrev pub font_in : Word → Trees Label → ℤ
font_in name leafless = first_font
font_in name (tree x below after) = if bytes_eq x.name name then root_font x.style else font_below (root_font x.style) (root_font x.style) name below first_font

abbrev pub root_font_in : Trees Label → ℤ
root_font_in leafless = first_font
root_font_in (tree x below after) = root_font x.style

-- the node of a name among these trees has another font size where they stand below a node of the font size `new` than below one of `old`
abbrev pub has_other_font : ℤ → ℤ → ℤ → Trees Label → Word → Bool
has_other_font old new root leafless name = false
has_other_font old new root (tree x below after) name =
    (bytes_eq x.name name && not (int_eq (font_of old root x.style) (font_of new root x.style)))
    || (has_other_font (font_of old root x.style) (font_of new root x.style) root below name || has_other_font old new root after name)

-- the node of a name below the first of these trees, whose font size is `old`, has another font size where that tree stands below a node of
-- the font size `parent`
abbrev pub gets_other_font : ℤ → ℤ → ℤ → Trees Label → Word → Bool
gets_other_font old parent root leafless name = false
gets_other_font old parent root (tree x below after) name = has_other_font old (font_of parent root x.style) root below name

-- ---- what a change marks

abbrev pub is_content_class : Class → Bool
is_content_class class.Content = true
is_content_class class.Grid = false
is_content_class class.Font = false

abbrev pub is_font_class : Class → Bool
is_font_class class.Font = true
is_font_class class.Grid = false
is_font_class class.Content = false

-- a property on which lines, areas or edges of subgrids depend, or `font-size`, on which they may
abbrev pub is_felt_property : Prop → Bool
is_felt_property p = not (is_content_class (class_in_table p))

abbrev pub is_font_property : Prop → Bool
is_font_property p = is_font_class (class_in_table p)

abbrev pub are_felt : List Prop → Bool
are_felt props = list_any is_felt_property props

abbrev pub have_font : List Prop → Bool
have_font props = list_any is_font_property props

-- A property on which the areas of the grid depend in which a node stands, or whether the node is a subgrid (CSS Grid 2, 6.3, 8.3 and section 9); or
-- `font-size`, on which others may depend.
abbrev pub is_placing_property : Prop → Bool
is_placing_property prop.GridTemplateColumns = true
is_placing_property prop.GridTemplateRows = true
is_placing_property prop.GridColumnStart = true
is_placing_property prop.GridColumnEnd = true
is_placing_property prop.GridRowStart = true
is_placing_property prop.GridRowEnd = true
is_placing_property prop.Order = true
is_placing_property prop.FontSize = true
is_placing_property p = false

abbrev pub are_placing : List Prop → Bool
are_placing props = list_any is_placing_property props

-- the node was a container, or becomes one
abbrev pub is_container : Kind → Word → Trees Label → Bool
is_container new name t = not (is_leaf new && is_leaf_top (tree_at name t))

-- subgrids feel the change
abbrev pub is_felt : Change → Trees Label → Bool
is_felt (change.Style name values) t = are_felt (map (λ v. v.0) values)
is_felt (change.Take name) t = true
is_felt (change.Bring parent index node) t = true
is_felt (change.Shift name parent index) t = true
is_felt (change.Kind name new) t = is_container new name t
is_felt (change.View width height) t = false

-- the areas of the grid in which a node stands may change, or whether one is a subgrid
abbrev pub is_placing : Change → Bool
is_placing (change.Style name values) = are_placing (map (λ v. v.0) values)
is_placing (change.Take name) = true
is_placing (change.Bring parent index node) = true
is_placing (change.Shift name parent index) = true
is_placing (change.Kind name new) = true
is_placing (change.View width height) = true

-- a node whose properties are set or no longer set; its parent, where subgrids feel it; and all below it, where `font-size` is one of them
abbrev pub is_marked_by : List Prop → Word → Trees Label → Word → Bool
is_marked_by props node t name =
    bytes_eq name node || ((are_felt props && is_parent t node name) || (have_font props && holds (below_at node t) name))

-- The nodes that a change of these trees marks: the node that it names, and all that it brings; where subgrids feel it, the parent, of a node that is shifted
-- the old
-- and the new one; and the nodes below it whose font size is declared anew, or is another where it is shifted to.
abbrev pub is_marked : Change → Trees Label → Word → Bool
is_marked (change.Style node values) t name = is_marked_by (map (λ v. v.0) values) node t name
is_marked (change.Take node) t name = bytes_eq name node || is_parent t node name
is_marked (change.Bring parent index node) t name = bytes_eq name parent || holds (tree_of_node node) name
is_marked (change.Shift node parent index) t name =
    bytes_eq name node
    || (bytes_eq name parent
    || (is_parent t node name || gets_other_font (font_in node t) (font_in parent t) (root_font_in t) (tree_at node t) name))
is_marked (change.Kind node new) t name = bytes_eq name node || (is_container new node t && is_parent t node name)
is_marked (change.View width height) t name = false

-- the node of this name in a tree is reached by a change of another
abbrev pub reaches : Change → Trees Label → Trees Label → Word → Bool
reaches c old t name = is_reached (λ x. bytes_eq x.name name) (λ x. is_marked c old x.name) is_subgrid_node (is_felt c old) false t

-- the change reaches the node of this name in the document before it or in that after it; a node that it brings is reached
abbrev pub touches : Change → Doc → Doc → Word → Bool
touches c old new name = reaches c (tree_of old) (tree_of old) name || reaches c (tree_of old) (tree_of new) name

-- an edit touches what the change that it makes touches
abbrev pub is_touched : Edit → Doc → Doc → Word → Bool
is_touched e = touches (forward_of e)

-- ---- what is kept

-- a padding, a margin and a gap leave all areas where they are, and lines do not
keeps_places : are_placing (prop.PaddingTop ∷ prop.MarginLeft ∷ prop.RowGap ∷ []) ≡ false
keeps_places = refl

moves_places : are_placing (prop.PaddingTop ∷ prop.GridRowStart ∷ []) ≡ true
moves_places = refl

-- A node after a change keeps nothing where its name is touched; and else it stood in the old tree under this name and number, was of this kind, and keeps what
-- it kept
-- there.
pub record KeepsOn (touched : Bool) (old : NodeTrees) (x : NodeId × Node) : Type 0 where
  pub kept : x.1.kept ≡ (if touched then [] else kept_at old x.0)
  pub stood : touched ≡ false → (v : Node) × ((value_at old x.0 ≡ Some v) × ((v.name ≡ x.1.name) × (v.kind ≡ x.1.kind)))

-- each node of a page keeps what it kept after a change, and after an edit, but for those that it touches
abbrev pub LeavesOthers : Change → Held → Held → Type 0
LeavesOthers c old new = EachNode (λ x. KeepsOn (touches c (document_of old) (document_of new) x.1.name) old.nodes.tree x) new.nodes.tree

abbrev pub KeepsOthers : Edit → Held → Held → Type 0
KeepsOthers e = LeavesOthers (forward_of e)

-- ---- worked rows, over names alone: a grid `main` with a leaf `b` and the subgrid `s`, in which `t` is a subgrid with a leaf `p`

abbrev Sample : Type 0
Sample = Word × Bool

abbrev lent : Trees Sample
lent =
    tree (codes "main", false)
    (tree (codes "b", false) leafless (tree (codes "s", true) (tree (codes "t", true) (tree (codes "p", false) leafless leafless) leafless) leafless))
    leafless

-- which of `main b s t p` are reached, where these are marked
abbrev told : List Word → Bool → List Bool
told marked grid =
    map (λ n. is_reached (λ x. bytes_eq x.0 n) (λ x. list_any (bytes_eq x.0) marked) (λ x. x.1) grid false lent)
    (codes "main" ∷ codes "b" ∷ codes "s" ∷ codes "t" ∷ codes "p" ∷ [])

-- `set b grid-column: 1 / 3`
set_line : told (codes "b" ∷ codes "main" ∷ []) true ≡ true ∷ true ∷ true ∷ true ∷ false ∷ []
set_line = refl

-- `set b width: 5px`
set_width : told (codes "b" ∷ []) false ≡ true ∷ true ∷ false ∷ false ∷ false ∷ []
set_width = refl

-- `set p grid-row: 1`
set_row : told (codes "p" ∷ codes "t" ∷ []) true ≡ true ∷ false ∷ true ∷ true ∷ true ∷ []
set_row = refl

-- `set t row-gap: 2px`
set_gap : told (codes "t" ∷ codes "s" ∷ []) true ≡ true ∷ false ∷ true ∷ true ∷ false ∷ []
set_gap = refl

-- `viewport 10 10`
set_viewport : told [] false ≡ false ∷ false ∷ false ∷ false ∷ false ∷ []
set_viewport = refl
