-- A grid in its columns, as its answer for the block size holds it: what the rules say of the node alone, whatever stands around it (CSS Grid
-- 2, 12.1).
use Rattle.std.specs.Prelude.{◌≡◌, ◌≤◌, ◌+◌, ◌^◌, ◌++◌, ◌∷◌, ℕ, pos, ◌-ℤ◌, ◌≤ℤ◌, List, [], length, map, slice_get, if◌then◌else◌, IfSome}
use Rattle.lunit.specs.Units.{IsUnits}
use Rattle.lunit.specs.declared.geometry.Area.{Area}
use Rattle.lunit.specs.declared.geometry.Span.{Span}
use Rattle.node_arena.specs.declared.number.NodeId.{NodeId}
use Rattle.part_rules.specs.Lists.{above_zero, joined, zipped}
use Rattle.part_rules.specs.declared.view.View.{View}
use Rattle.tree_rules.specs.Answers.{Kid, Pair}
use Rattle.tree_rules.specs.Chains.{above_of, sibling_of}
use Rattle.tree_rules.specs.Contexts as rules
use Rattle.tree_rules.specs.GridSizes.{Grid, TrackAxis, Wide, entry_of, grid_by, row_items_of, rows_of_grid, shares_rows, view_by, view_for, wide_children}
use Rattle.tree_rules.specs.Orders.{in_order}
use Rattle.tree_rules.specs.Places.{Seen}
use Rattle.tree_rules.specs.Repetitions.{own_pair}
use Rattle.tree_rules.specs.Whole.{kids_of}
use Rattle.tree_rules.specs.declared.query.Given.{Given}
use Rattle.placing.specs.declared.contexts.Above.{Above}
use Rattle.placing.specs.declared.contexts.Above.TheVariants as above
use Rattle.placing.specs.declared.contexts.Placed.{Placed}
use Rattle.placing.specs.declared.wide.GridBase.{GridBase}
use Rattle.placing.specs.declared.wide.GridParts.{GridParts}
use Rattle.placing.specs.declared.wide.GridWide.{GridWide}
use Rattle.placing.specs.declared.wide.RowsAt.{RowsAt}
use Rattle.placing.specs.declared.wide.WideChild.{WideChild}
use Rattle.placing.specs.Areas.{child_in, placed_of}
use Rattle.placing.specs.Insides.{AreInside}
use Rattle.placing.specs.Order.{numbers_in_order}
use Rattle.placing.specs.Seats.{context_at, context_of}
use Rattle.placing.specs.Spread.{AreSpread, IsSpread}

-- ---- by the rules

-- the children of a node with their answers, in document order
abbrev pub kids_in : Seen → List Kid
kids_in s = kids_of (above_of s.label s.chain s.below) 0 s.below

-- the grid, by the counts of the repetitions above it and what it is given in the inline axis
unfoldable pub grid_in : Seen → List Pair → Given → Grid
grid_in s outer width = grid_by s.label s.chain (kids_in s) outer width

-- its columns
unfoldable pub columns_in : Seen → List Pair → Given → View 0
columns_in s outer width = view_by (grid_in s outer width).columns width

-- its children in them
unfoldable pub wides_in : Seen → List Pair → Given → List Wide
wides_in s outer width = wide_children (grid_in s outer width) (columns_in s outer width)

-- the axis of its rows
unfoldable pub rows_in : Seen → List Pair → Given → TrackAxis
rows_in s outer width = rows_of_grid (grid_in s outer width) (wides_in s outer width)

-- ---- in the code

-- the seat that a grid with this context gives its subgrids
abbrev pub IsAbove : rules.Context → Above → Type 0
IsAbove c above.Nothing = ⊥
IsAbove c (above.Grid made) = context_of made ≡ c

-- what the code holds of a child; the block size of a subgrid in the rows is not asked
abbrev pub child_of : Wide → WideChild
child_of w = record { box_ = w.box; inline = w.inline; block = if shares_rows w.entry.kid then pos 0 else w.down.block }

-- the areas of these children of a node in a context
pub record HoldsAreas (s : Seen) (kids : List NodeId) (c : rules.Context) (p : Placed) : Type 0 where
  pub placed : placed_of p ≡ rules.placed_children c s.label.grid (map (λ (k : Kid). sibling_of k.label) (kids_in s))
  pub numbers : p.numbers ≡ numbers_in_order (map (λ (k : Kid). k.label.grid.order) (kids_in s))
  pub children : map (slice_get kids) p.numbers ≡ map child_in p.areas
  pub inside : AreInside c (map (λ (e : NodeId × Area). e.1) p.areas)

-- the grid before its children are asked
pub record HoldsBase (s : Seen) (kids : List NodeId) (outer : List Pair) (width : Given) (base : GridBase) : Type 0 where
  pub counts : length base.pairs ≡ length s.chain + 1
  pub context : IsAbove (context_at s base.pairs) base.above
  pub placed : HoldsAreas s kids (context_at s base.pairs) base.placed
  pub pair : base.pair ≡ own_pair s.label width
  pub pairs : base.pairs ≡ outer ++ base.pair ∷ []

-- the grid with what its children answer
pub record HoldsGrid (s : Seen) (kids : List NodeId) (outer : List Pair) (width : Given) (parts : GridParts) : Type 0 where
  pub base : HoldsBase s kids outer width parts.base
  pub pairs : parts.base.pairs ≡ (grid_in s outer width).pairs
  pub context : IsAbove (grid_in s outer width).context parts.base.above
  pub placed : HoldsAreas s kids (grid_in s outer width).context parts.base.placed
  pub entries : zipped entry_of (in_order (λ (k : Kid). k.label.grid.order) (kids_in s)) (placed_of parts.base.placed).areas ≡ (grid_in s outer width).entries
  pub inlines : parts.inlines ≡ (grid_in s outer width).inlines
  pub items : parts.items ≡ (grid_in s outer width).columns.items

-- They are the rows of this axis, as many as these tracks, and not far from each other, in a content box of their size.
pub record HoldsRows (axis : TrackAxis) (tracks : Span) (r : RowsAt) : Type 0 where
  pub view : r.view ≡ view_for {axis = 1} axis r.size
  pub counted : length r.view.edges ≡ above_zero (tracks.end -ℤ tracks.start)
  pub gap : pos 0 ≤ℤ r.view.gap
  pub spread : AreSpread (2 ^ 50 + 2 ^ 34) r.view.edges

-- It is the grid of a node of which the rules see this and which has these children, in its columns.
pub record HoldsWide (s : Seen) (kids : List NodeId) (outer : List Pair) (width : Given) (w : GridWide) : Type 0 where
  pub grid : HoldsGrid s kids outer width w.parts
  pub columns : w.columns ≡ columns_in s outer width
  pub children : w.children ≡ map child_of (wides_in s outer width)
  pub row_items : w.items ≡ joined (map (λ (x : Wide). row_items_of (grid_in s outer width).context.rows x.entry x.down) (wides_in s outer width))
  pub items : w.items ≡ (rows_in s outer width).items
  pub counted : pos (length w.columns.edges) ≡ (w.parts.base.placed.columns.end -ℤ w.parts.base.placed.columns.start)
  pub gap : pos 0 ≤ℤ w.columns.gap
  pub range : IsUnits w.columns.gap
  -- the columns are not far from each other where the tracks are not that the grid is given
  pub spread : (by : ℕ) → 2 ^ 51 ≤ by → IsSpread by width → AreSpread by w.columns.edges
  pub rows : IfSome w.rows (HoldsRows (rows_in s outer width) w.parts.base.placed.rows)
