-- A grid by its number once its columns lie where they lie, and what the code holds of it (CSS Grid 2, 12.1).
use Rattle.std.specs.Prelude.{◌≡◌, ℕ, ◌+◌, ◌*◌, ◌^◌, ◌≤◌, ℤ, pos, ◌-ℤ◌, ◌≤ℤ◌, length, List, [], ◌∷◌, map, drop, Contains, if◌then◌else◌, IfSome}
use Rattle.lunit.specs.Units.{IsUnits}
use Rattle.lunit.specs.declared.item.Item.{Item}
use Rattle.node_arena.specs.declared.number.NodeId.{NodeId}
use Rattle.part_rules.specs.Lists.{joined}
use Rattle.part_rules.specs.declared.view.Level.{Level}
use Rattle.part_rules.specs.declared.view.View.{View}
use Rattle.placing.specs.Areas.{entry_by}
use Rattle.placing.specs.Nodes.{BareTrees, kid_at, level_at, sight_at, uses_at}
use Rattle.placing.specs.Seats.{context_at}
use Rattle.placing.specs.Wides.{HoldsRows, child_of}
use Rattle.placing.specs.declared.contexts.Above.{Above}
use Rattle.placing.specs.declared.contexts.Above.TheVariants as above
use Rattle.placing.specs.declared.items.ChildArea.{ChildArea}
use Rattle.tree_rules.specs.Answers.{Down, Pair}
use Rattle.tree_rules.specs.AskedQueries.{block_query}
use Rattle.tree_rules.specs.GridSizes.{Entry, TrackAxis, Wide, pairs_for, from_first, row_items_of, rows_of_grid, shares_columns, shares_rows, view_by, wide_children, wide_of}
use Rattle.tree_rules.specs.declared.query.Given.{Given}
use Rattle.tree_rules.specs.declared.query.Query.{Query}
use Rattle.inline_sizes.specs.Grids.{IsEntry, IsGrid, pairs_seen}
use Rattle.inline_sizes.specs.GridsSeen.{grid_seen}
use Rattle.block_sizes.specs.Spans.{LiesIn}
use Rattle.placing.specs.Spread.{AreSpread, IsSpread}
use Rattle.inline_sizes.specs.Lifted.{IsLifted}
use Rattle.placing.specs.declared.wide.GridBase.{GridBase}
use Rattle.block_sizes.specs.Children.{inline_of_child}
use Rattle.placing.specs.declared.wide.GridWide.{GridWide}
use Rattle.placing.specs.declared.wide.WideChild.{WideChild}

-- ---- the grid of the definitions

-- its columns, by the counts of the repetitions above it and what it is given in the inline axis
unfoldable pub columns_seen : BareTrees → NodeId → List Pair → Given → View 0
columns_seen b n outer width = view_by (grid_seen b n outer width).columns width

-- a child in these columns, by its two intrinsic inline sizes
unfoldable pub wide_seen : BareTrees → NodeId → List Pair → Given → Entry → ℤ × ℤ → Wide
wide_seen b n outer width e sizes = wide_of (grid_seen b n outer width) (columns_seen b n outer width) e sizes

-- all children
unfoldable pub wides_seen : BareTrees → NodeId → List Pair → Given → List Wide
wides_seen b n outer width = wide_children (grid_seen b n outer width) (columns_seen b n outer width)

-- the axis of the rows
unfoldable pub rows_seen : BareTrees → NodeId → List Pair → Given → TrackAxis
rows_seen b n outer width = rows_of_grid (grid_seen b n outer width) (wides_seen b n outer width)

-- ---- its children

-- the items of a child along the rows
abbrev pub items_of : BareTrees → NodeId → List Pair → Given → Wide → List Item
items_of b n outer width w = row_items_of (grid_seen b n outer width).context.rows w.entry w.down

-- what the grid asks of a child that is given this, for its block size or its lent rows
abbrev pub asked_of : BareTrees → GridBase → ChildArea → Given → Query
asked_of b base e width = block_query (shares_rows (kid_at b e.child)) (pairs_seen b base e) width

-- what is known of it then
abbrev pub down_seen : BareTrees → GridBase → ChildArea → Given → Down
down_seen b base e width = (kid_at b e.child).answers.down (pairs_seen b base e) width

-- its block size, where it is asked
abbrev pub block_seen : BareTrees → GridBase → ChildArea → Given → ℤ
block_seen b base e width = if shares_rows (kid_at b e.child) then pos 0 else (down_seen b base e width).block

-- its items along the rows
abbrev pub items_seen : BareTrees → NodeId → GridBase → ChildArea → Given → List Item
items_seen b n base e width = row_items_of (context_at (sight_at b n) base.pairs).rows (entry_by b e) (down_seen b base e width)

-- its inline size in these columns, and what it is given there
abbrev pub inline_in : BareTrees → NodeId → GridBase → View 0 → ChildArea → ℤ × ℤ → ℤ × Given
inline_in b n base columns e sizes =
    inline_of_child (sight_at b n).label.content.inline.items columns (from_first base.placed.columns e.area.columns) (kid_at b e.child).label
    (shares_columns (kid_at b e.child)) sizes

-- the child in these columns
abbrev pub wide_in : BareTrees → NodeId → GridBase → View 0 → ChildArea → ℤ × ℤ → Wide
wide_in b n base columns e sizes =
    let inline : ℤ × Given = inline_in b n base columns e sizes in
    record { entry = entry_by b e; box = inline.0; inline = inline.1; down = down_seen b base e inline.1 }

-- what the grid asks of a child for its block size or its lent rows
abbrev pub asks_of : BareTrees → NodeId → List Pair → Given → Wide → Query
asks_of b n outer width w = block_query (shares_rows w.entry.kid) (pairs_for w.entry.kid (grid_seen b n outer width).pairs) w.inline

-- the levels of the grid above, along the rows
abbrev pub row_levels : Above → List Level
row_levels above.Nothing = []
row_levels (above.Grid made) = made.rows.levels

-- A child of the grid in its area, and its seat there, for both axes.
pub record IsChildIn (b : BareTrees) (n : NodeId) (base : GridBase) (e : ChildArea) : Type 0 where
  pub entry : IsEntry b n base e
  pub lifted : IsLifted (row_levels base.above) e.area.rows
  pub columns : LiesIn base.placed.columns e.area.columns
  pub level : level_at b e.child ≡ level_at b n + 1

-- A question to the grid that leads to a question to each of its children, for its block size or its lent rows.
abbrev pub LeadsDown : BareTrees → NodeId → List Pair → Given → Query → Type 0
LeadsDown b n outer width q =
    (k : ℕ) (w : Wide) → drop k (wides_seen b n outer width) ≡ w ∷ drop (k + 1) (wides_seen b n outer width) →
    Contains (uses_at b n q) (w.entry.number, asks_of b n outer width w)

-- the items of these children along the rows
abbrev pub items_from : BareTrees → NodeId → List Pair → Given → List Wide → List Item
items_from b n outer width wides = joined (map (items_of b n outer width) wides)

-- The children of the grid, and their items along the rows.
pub record AreWide (b : BareTrees) (n : NodeId) (outer : List Pair) (width : Given) (told : List WideChild) (made : List Item) : Type 0 where
  pub children : told ≡ map child_of (wides_seen b n outer width)
  pub items : made ≡ items_from b n outer width (wides_seen b n outer width)

-- How far the edges of the tracks may lie from each other and from 0 that a node of this level is given: at least 2^48 for each level (own rule).
abbrev pub farthest : ℕ → ℕ
farthest level = 2 ^ 54 + 2 ^ 33 * level

-- ---- the grid of the code

-- It is the grid of the definitions.
pub record IsWide (b : BareTrees) (n : NodeId) (outer : List Pair) (width : Given) (w : GridWide) : Type 0 where
  pub grid : IsGrid b n outer width w.parts
  pub columns : w.columns ≡ columns_seen b n outer width
  pub wide : AreWide b n outer width w.children w.items
  pub items : w.items ≡ (rows_seen b n outer width).items
  -- there are as many columns as the grid has tracks, they are not far from each other, and their gap is a length of at least 0
  pub counted : pos (length w.columns.edges) ≡ (w.parts.base.placed.columns.end -ℤ w.parts.base.placed.columns.start)
  pub gap : pos 0 ≤ℤ w.columns.gap
  pub range : IsUnits w.columns.gap
  pub spread : AreSpread (farthest (level_at b n)) w.columns.edges
  pub far : (by : ℕ) → 2 ^ 51 ≤ by → IsSpread by width → AreSpread by w.columns.edges
  -- where they lie where the content box is as great as the content, if that is known
  pub rows : IfSome w.rows (HoldsRows (rows_seen b n outer width) w.parts.base.placed.rows)
