-- A grid by its number, once the counts of its repetitions are known, and what the code holds of it.
use Rattle.std.specs.Prelude.{◌≡◌, ◌<◌, ◌&&◌, ℕ, ◌+◌, ℤ, List, [], ◌∷◌, ◌++◌, map, length, drop, Contains, Bool, true, false, Some}
use Rattle.lunit.specs.declared.item.Item.{Item}
use Rattle.node_arena.specs.declared.number.NodeId.{NodeId}
use Rattle.part_rules.specs.Lists.{joined, zipped}
use Rattle.part_rules.specs.declared.view.Level.{Level}
use Rattle.node_arena.specs.Numbers.{child_at}
use Rattle.placing.specs.Areas.{IsPlaced, entries_at, entry_by}
use Rattle.placing.specs.Insides.{IsInside}
use Rattle.placing.specs.declared.items.ChildArea.{ChildArea}
use Rattle.placing.specs.Nodes.{BareTrees, IsLive, kid_at, sight_at, size_at, uses_at}
use Rattle.placing.specs.Seats.{IsSeat, context_at}
use Rattle.placing.specs.Told.{AreTold, TellsColumns}
use Rattle.placing.specs.Wides.{IsAbove}
use Rattle.tree_rules.specs.Chains.{has_chain, has_subgrid, is_grid_kind}
use Rattle.tree_rules.specs.Labels.{Label}
use Rattle.inline_sizes.specs.GridsSeen.{grid_seen}
use Rattle.inline_sizes.specs.Lifted.{IsLifted}
use Rattle.placing.specs.declared.contexts.Above.{Above}
use Rattle.placing.specs.declared.contexts.Above.TheVariants as above
use Rattle.tree_rules.specs.Answers.{Pair}
use Rattle.tree_rules.specs.AskedQueries.{inline_query}
use Rattle.tree_rules.specs.Contexts as rules
use Rattle.tree_rules.specs.GridSizes.{Entry, column_items_of, inline_of_entry, pairs_for, shares_columns}
use Rattle.tree_rules.specs.Repetitions.{own_pair}
use Rattle.tree_rules.specs.declared.query.Given.{Given}
use Rattle.tree_rules.specs.declared.query.Query.{Query}
use Rattle.placing.specs.declared.wide.GridBase.{GridBase}
use Rattle.placing.specs.declared.wide.GridParts.{GridParts}

-- ---- before its children are asked

-- the levels of the grid above, columns and rows
abbrev pub column_levels : Above → List Level
column_levels above.Nothing = []
column_levels (above.Grid made) = made.columns.levels

-- The context of the grid and the areas of its children, by the counts of its repetitions, its own last.
pub record IsLaid (b : BareTrees) (n : NodeId) (base : GridBase) : Type 0 where
  pub counts : length base.pairs ≡ length (sight_at b n).chain + 1
  pub context : IsAbove (context_at (sight_at b n) base.pairs) base.above
  pub placed : IsPlaced b n (context_at (sight_at b n) base.pairs) base.placed

-- and these counts are those of the grid that sees these above it and is given this width
pub record IsBase (b : BareTrees) (n : NodeId) (outer : List Pair) (width : Given) (base : GridBase) : Type 0 where
  pub laid : IsLaid b n base
  pub pair : base.pair ≡ own_pair (sight_at b n).label width
  pub pairs : base.pairs ≡ outer ++ base.pair ∷ []

-- The counts of a grid that sees these above it and is given this width, and those that its subgrids see, its own last.
pub record IsCounted (b : BareTrees) (n : NodeId) (outer : List Pair) (width : Given) (counts : Pair × List Pair) : Type 0 where
  pub pair : counts.0 ≡ own_pair (sight_at b n).label width
  pub pairs : counts.1 ≡ outer ++ counts.0 ∷ []

-- ---- what its children answer

-- a node is a subgrid where its parent is a grid
abbrev pub has_subgrid_kind : Label → Bool
has_subgrid_kind x = is_grid_kind x.kind && has_subgrid x.grid

-- A child of the grid in its area, and its seat there.
pub record IsEntry (b : BareTrees) (n : NodeId) (base : GridBase) (e : ChildArea) : Type 0 where
  pub live : IsLive b e.child
  pub number : child_at b n e.number ≡ Some e.child
  pub smaller : size_at b e.child < size_at b n
  pub chain : has_chain (sight_at b e.child).chain ≡ has_subgrid_kind (sight_at b e.child).label
  pub counts : length (pairs_for (kid_at b e.child) base.pairs) ≡ length (sight_at b e.child).chain
  pub lifted : IsLifted (column_levels base.above) e.area.columns
  pub inside : IsInside (context_at (sight_at b n) base.pairs) e.area
  pub seat : has_chain (sight_at b e.child).chain ≡ true → IsSeat (sight_at b e.child) base.pairs base.above e.area
  pub alone : has_chain (sight_at b e.child).chain ≡ false → IsSeat (sight_at b e.child) [] above.Nothing e.area

-- the counts that it sees above it
abbrev pub pairs_seen : BareTrees → GridBase → ChildArea → List Pair
pairs_seen b base e = pairs_for (kid_at b e.child) base.pairs

-- what the grid asks of it
abbrev pub asked_of : BareTrees → GridBase → ChildArea → Query
asked_of b base e = inline_query (shares_columns (kid_at b e.child)) (pairs_seen b base e)

-- its inline sizes
abbrev pub sizes_seen : BareTrees → GridBase → ChildArea → ℤ × ℤ
sizes_seen b base e = inline_of_entry base.pairs (entry_by b e)

-- its items along the columns
abbrev pub items_seen : BareTrees → NodeId → GridBase → ChildArea → List Item
items_seen b n base e = column_items_of (context_at (sight_at b n) base.pairs).columns base.pairs (entry_by b e) (sizes_seen b base e)

-- the items of these children along the columns
abbrev pub items_from : rules.AxisContext → List Pair → List Entry → List Item
items_from c pairs entries = joined (zipped (column_items_of c pairs) entries (map (inline_of_entry pairs) entries))

-- A question to the grid that leads to a question to each of its children, for its inline sizes or its lent columns.
abbrev pub LeadsOn : BareTrees → NodeId → GridBase → Query → Type 0
LeadsOn b n base q =
    (k : ℕ) (e : Entry) → drop k (entries_at b n base.placed) ≡ e ∷ drop (k + 1) (entries_at b n base.placed) →
    Contains (uses_at b n q) (e.number, inline_query (shares_columns e.kid) (pairs_for e.kid base.pairs))

-- The inline sizes of the children, and their items along the columns.
pub record AreAnswers (b : BareTrees) (n : NodeId) (base : GridBase) (sizes : List (ℤ × ℤ)) (made : List Item) : Type 0 where
  pub inlines : sizes ≡ map (inline_of_entry base.pairs) (entries_at b n base.placed)
  pub items : made ≡ items_from (context_at (sight_at b n) base.pairs).columns base.pairs (entries_at b n base.placed)

-- So the children told them: as many sizes as there are areas, and the items of each child up to its end, where those count.
pub record HaveTold (b : BareTrees) (n : NodeId) (base : GridBase) (Counts : ℕ → Type 0) (sizes : List (ℤ × ℤ)) (made : List Item) (ends : List ℕ) : Type
    0 where
  pub counted : length sizes ≡ length base.placed.areas
  pub told : AreTold Counts (TellsColumns (sight_at b n) (kid_at b) base) sizes made ends

-- ---- the grid of the code

-- It is the grid of the definitions.
pub record IsGrid (b : BareTrees) (n : NodeId) (outer : List Pair) (width : Given) (parts : GridParts) : Type 0 where
  pub base : IsBase b n outer width parts.base
  pub pairs : parts.base.pairs ≡ (grid_seen b n outer width).pairs
  pub context : IsAbove (grid_seen b n outer width).context parts.base.above
  pub placed : IsPlaced b n (grid_seen b n outer width).context parts.base.placed
  pub entries : entries_at b n parts.base.placed ≡ (grid_seen b n outer width).entries
  pub inlines : parts.inlines ≡ (grid_seen b n outer width).inlines
  pub items : parts.items ≡ (grid_seen b n outer width).columns.items

-- It is the one of some counts above it and some width.
pub record IsSomeGrid (b : BareTrees) (n : NodeId) (parts : GridParts) : Type 0 where
  pub outer : List Pair
  pub width : Given
  pub grid : IsGrid b n outer width parts
