-- The grids above a subgrid on which its lines and areas depend (CSS Grid 2, section 9).
use Rattle.std.specs.Prelude.{ℕ, Bool, true, false, ◌||◌, ◌&&◌, List, [], ◌∷◌, if◌then◌else◌}
use Rattle.plain_tree.specs.Trees.{Trees, leafless, tree}
use Rattle.style_types.specs.declared.track.Template.{Template}
use Rattle.style_types.specs.declared.track.Template.TheVariants as template
use Rattle.tree_rules.specs.declared.kind.NodeKind.{NodeKind}
use Rattle.tree_rules.specs.declared.kind.NodeKind.TheVariants as kind
use Rattle.tree_rules.specs.Labels.{Label, GridStyle}
use Rattle.std.specs.Prelude.{◌≡◌, refl, codes}
use Rattle.tree_rules.specs.Labels.{plain_axis, plain_content, plain_grid}

-- What the areas of a grid depend on of one of its children.
pub record Sibling : Type 0 where
  pub name : List ℕ
  pub is_grid : Bool
  pub grid : GridStyle

-- A grid above a subgrid: its name, its grid-class values, its children in document order, and the number of the child, from 0, on the
-- way to the subgrid.
pub record Link : Type 0 where
  pub name : List ℕ
  pub grid : GridStyle
  pub children : List Sibling
  pub way : ℕ

-- What the nodes below a node see of it: its links upwards are those of its chain.
pub record Above : Type 0 where
  pub name : List ℕ
  pub is_grid : Bool
  pub grid : GridStyle
  pub children : List Sibling
  pub chain : List Link

-- a grid container
abbrev pub is_grid_kind : NodeKind → Bool
is_grid_kind kind.Grid = true
is_grid_kind kind.Flex = false
is_grid_kind (kind.Leaf content) = false

-- the template is `subgrid`
abbrev pub is_subgrid : Template → Bool
is_subgrid (template.Subgrid sets) = true
is_subgrid (template.Tracks list) = false
is_subgrid template.Absent = false

-- the template is `subgrid` in either axis
abbrev pub has_subgrid : GridStyle → Bool
has_subgrid g = is_subgrid g.columns.template || is_subgrid g.rows.template

-- what its parent sees of a node
abbrev pub sibling_of : Label → Sibling
sibling_of x = record { name = x.name; is_grid = is_grid_kind x.kind; grid = x.grid }

-- what the parent of these trees sees of its children
abbrev pub siblings_of : Trees Label → List Sibling
siblings_of leafless = []
siblings_of (tree x below after) = sibling_of x ∷ siblings_of after

-- what the children of a node with these links upwards see of it
abbrev pub above_of : Label → List Link → Trees Label → Above
above_of x chain below = record { name = x.name; is_grid = is_grid_kind x.kind; grid = x.grid; children = siblings_of below; chain = chain }

-- the link from the child of this number upwards
abbrev pub link_to : Above → ℕ → Link
link_to above n = record { name = above.name; grid = above.grid; children = above.children; way = n }

-- The chain of a node that is the child of this number: the links from its parent up, as far as each lower grid is, in either
-- axis, a subgrid of the next. A node that is no subgrid has the empty chain; `subgrid` on a node whose parent is no grid is
-- `none` (CSS Grid 2, section 9).
abbrev pub chain_of : Above → ℕ → Label → List Link
chain_of above n x = if above.is_grid && (is_grid_kind x.kind && has_subgrid x.grid) then link_to above n ∷ above.chain else []

-- there is a grid of which the node is a subgrid
abbrev pub has_chain : List Link → Bool
has_chain [] = false
has_chain (link ∷ chain) = true

-- ---- worked rows

abbrev sub_columns : GridStyle
sub_columns = record plain_grid { columns = record plain_axis { template = template.Subgrid [] } }

abbrev grid_with : List ℕ → GridStyle → Label
grid_with name g = record { name = name; kind = kind.Grid; grid = g; content = plain_content }

-- a grid `g` with one child, the subgrid `s`
abbrev above_s : Above
above_s = above_of (grid_with (codes "g") plain_grid) [] (tree (grid_with (codes "s") sub_columns) leafless leafless)

one_link : chain_of above_s 0 (grid_with (codes "s") sub_columns) ≡
    record { name = codes "g"; grid = plain_grid; children = record { name = codes "s"; is_grid = true; grid = sub_columns } ∷ []; way = 0 } ∷ []
one_link = refl

-- A subgrid of the subgrid has two links, the nearest first.
two_links : chain_of (above_of (grid_with (codes "s") sub_columns) (chain_of above_s 0 (grid_with (codes "s") sub_columns)) leafless) 3
    (grid_with (codes "t") sub_columns)
    ≡ record { name = codes "s"; grid = sub_columns; children = []; way = 3 } ∷
    record { name = codes "g"; grid = plain_grid; children = record { name = codes "s"; is_grid = true; grid = sub_columns } ∷ []; way = 0 } ∷
    []
two_links = refl

-- A grid in it with tracks of its own sees nothing above it.
no_subgrid : chain_of (above_of (grid_with (codes "s") sub_columns) (link_to above_s 0 ∷ []) leafless) 0 (grid_with (codes "t") plain_grid) ≡ []
no_subgrid = refl

-- `subgrid` in a flex container is `none`.
in_flex : chain_of (above_of (record { name = codes "f"; kind = kind.Flex; grid = plain_grid; content = plain_content }) [] leafless) 0
    (grid_with (codes "t") sub_columns) ≡ []
in_flex = refl

-- A flex container is no subgrid, whatever its template.
flex_child : chain_of above_s 0 (record { name = codes "f"; kind = kind.Flex; grid = sub_columns; content = plain_content }) ≡ []
flex_child = refl
