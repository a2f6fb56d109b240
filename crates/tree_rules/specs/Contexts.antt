-- The lines of a grid, where its tracks lie under the grids above it, and the areas of its children (CSS Grid 2, sections 7 to 9).
use Rattle.std.specs.Prelude.{◌≡◌, refl, ℕ, ◌-◌, max, ℤ, pos, Bool, true, false, List, [], ◌∷◌, map, length, Option, Some, None, if◌then◌else◌, codes, negsuc}
use Rattle.lunit.specs.declared.geometry.Area.{Area}
use Rattle.lunit.specs.declared.geometry.Span.{Span}
use Rattle.part_rules.specs.declared.view.Level.{Level}
use Rattle.part_rules.specs.declared.wish.Shape.{Shape}
use Rattle.part_rules.specs.declared.wish.Wish.{Wish}
use Rattle.part_rules.specs.LineNames.{NamedSpan, Table, own_table, subgrid_table, resolved, cut_span}
use Rattle.part_rules.specs.Lists.{zipped}
use Rattle.part_rules.specs.Placement.{placed, range_of, no_area}
use Rattle.style_types.specs.declared.track.Template.{Template}
use Rattle.style_types.specs.declared.track.Template.TheVariants as template
use Rattle.style_types.specs.declared.value.Areas.{Areas}
use Rattle.tree_rules.specs.Answers.{Pair}
use Rattle.tree_rules.specs.Chains.{Link, Sibling, is_subgrid}
use Rattle.tree_rules.specs.Labels.{GridAxis, GridStyle}
use Rattle.tree_rules.specs.NodeSizes.{outer_start, outer_end}
use Rattle.tree_rules.specs.Orders.{in_order, of_number}
use Rattle.tree_rules.specs.Repetitions.{gap_by}
use Rattle.tree_rules.specs.Templates.{written, subgrid_sets}
use Rattle.lunit.specs.declared.line_value.LineValue.TheVariants as line
use Rattle.part_rules.specs.Placement.{placed_by_rows}
use Rattle.style_types.specs.declared.value.Size.TheVariants as size
use Rattle.tree_rules.specs.Labels.{plain_axis, plain_grid}
use Rattle.tree_rules.specs.Templates.{a_name, z_name, px_track}

-- What a grid has in one axis: whether it is a subgrid there, its lines, its gap, and the subgrids from it up to the grid that sizes the tracks,
-- itself first. The gaps are those for lent items, where a percentage counts 0 (own rule: while frames are
-- made it could also be of the size that is known then).
pub record AxisContext : Type 0 where
  pub subgrid : Bool
  pub table : Table
  pub gap : ℤ
  pub levels : List Level

-- What a grid has in its two axes.
pub record Context : Type 0 where
  pub columns : AxisContext
  pub rows : AxisContext

-- The areas of the children of a grid, each with its number in document order, in order-modified document order; and the tracks of each
-- axis.
pub record Placed : Type 0 where
  pub areas : List (ℕ × Area)
  pub columns : Span
  pub rows : Span

-- ---- one axis (CSS Grid 2, 7.1, 7.3 and section 9)

-- the named areas of `grid-template-areas` along the columns
abbrev pub named_columns : Option Areas → List NamedSpan
named_columns None = []
named_columns (Some a) = map (λ (n : List ℕ × Area). (n.0, n.1.columns)) a.named

-- the named areas of `grid-template-areas` along the rows
abbrev pub named_rows : Option Areas → List NamedSpan
named_rows None = []
named_rows (Some a) = map (λ (n : List ℕ × Area). (n.0, n.1.rows)) a.named

-- the number of cells of `grid-template-areas` along the columns
abbrev pub column_cells : Option Areas → ℕ
column_cells None = 0
column_cells (Some a) = a.columns

-- the number of cells of `grid-template-areas` along the rows
abbrev pub row_cells : Option Areas → ℕ
row_cells None = 0
row_cells (Some a) = a.rows

-- A grid that sizes the tracks of this axis itself. Its explicit tracks are those of the template or the cells of the areas, whichever are
-- more (CSS Grid 2, 7.1).
abbrev pub own_context : GridAxis → ℕ → List NamedSpan → ℕ → AxisContext
own_context g cells named count =
    let w = written g.template count in
    record { subgrid = false; table = own_table w.names (max (length w.sizes) cells) named; gap = gap_by None (pos 0) g.gap; levels = [] }

-- the subgrid over this span of its parent
abbrev pub level_of : GridAxis → Span → ℤ → ℤ → Level
level_of g span gap outer_gap = record { span = span; gap = gap; outer_gap = outer_gap; before = outer_start g; after = outer_end g }

-- A grid that has the tracks of its parent over this span. `normal` is the parent's gap, in this axis alone (it could also be so in an axis in
-- which it is no subgrid).
abbrev pub shared_context : AxisContext → Span → GridAxis → List NamedSpan → AxisContext
shared_context parent span g named =
    let gap = gap_by None parent.gap g.gap in
    record {
      subgrid = true;
      table = subgrid_table parent.table span (subgrid_sets g.template) named;
      gap = gap;
      levels = level_of g span gap
          parent.gap ∷ parent.levels;
    }

-- under a parent: only with the template `subgrid` does it have the parent's tracks
abbrev pub context_under : AxisContext → Span → GridAxis → ℕ → List NamedSpan → ℕ → AxisContext
context_under parent span g cells named count =
    let shared = shared_context parent span g named in
    let own = own_context g cells named count in
    if is_subgrid g.template then shared else own

-- ---- areas (CSS Grid 2, 8.3 to 8.5)

-- The automatic span of a child: that of its name sets where it is a subgrid in this axis, else 1 (CSS Grid 2, 8.3 and section 9; it
-- could also be so for any child of this template, also one that is no grid).
abbrev pub automatic_span : Bool → Template → ℕ
automatic_span true (template.Subgrid sets) = max 1 (length sets - 1)
automatic_span true template.Absent = 1
automatic_span true (template.Tracks l) = 1
automatic_span false t = 1

-- where a child is to stand
abbrev pub wish_of : Context → Sibling → Wish
wish_of c s = record {
  column = resolved c.columns.table s.grid.columns.start_line s.grid.columns.end_line (automatic_span s.is_grid s.grid.columns.template);
  row = resolved c.rows.table s.grid.rows.start_line s.grid.rows.end_line (automatic_span s.is_grid s.grid.rows.template);
}

-- what placement knows of the grid
abbrev pub shape_of : Context → GridStyle → Shape
shape_of c g = record { columns = c.columns.table.tracks; column_flow = g.column_flow; dense = g.dense; rows = c.rows.table.tracks }

-- an area cut to the limit of both axes (CSS Grid 2, 5.4)
abbrev pub cut_area : Context → Area → Area
cut_area c a = record { columns = cut_span c.columns.table.low c.columns.table.high a.columns; rows = cut_span c.rows.table.low c.rows.table.high a.rows }

-- an item that is numbered and its area
abbrev pub with_area : {A : Type 0} → ℕ × A → Area → ℕ × Area
with_area e a = (e.0, a)

-- The areas of the children, cut to the limit, and the tracks: the least range that has the explicit ones and all areas (CSS Grid 2, 8.5 and 7.5).
abbrev pub placed_children : Context → GridStyle → List Sibling → Placed
placed_children c g children =
    let ordered = in_order (λ (s : Sibling). s.grid.order) children in
    let wishes = map (λ (e : ℕ × Sibling). wish_of c e.1) ordered in
    let areas = map (cut_area c) (placed wishes (shape_of c g)) in
    record {
      areas = zipped with_area ordered areas;
      columns = range_of c.columns.table.tracks (map (λ (a : Area). a.columns) areas);
      rows = range_of
          c.rows.table.tracks (map (λ (a : Area). a.rows) areas);
    }

-- the area of the child of this number
abbrev pub area_of : Placed → ℕ → Area
area_of p n = of_number n no_area p.areas

-- ---- both axes, down a chain (CSS Grid 2, section 9)

-- the counts of a grid's own repetitions, the first of these
abbrev pub first_pair : List Pair → Pair
first_pair [] = (1, 1)
first_pair (p ∷ outer) = p

-- the counts of the repetitions of the grids above it
abbrev pub outer_pairs : List Pair → List Pair
outer_pairs [] = []
outer_pairs (p ∷ outer) = outer

-- the context of a grid that is no subgrid
abbrev pub top_context : GridStyle → Pair → Context
top_context g p = record {
  columns = own_context g.columns (column_cells g.areas) (named_columns g.areas) p.0;
  rows = own_context g.rows (row_cells g.areas)
      (named_rows g.areas) p.1;
}

-- the context of a grid in this area of its parent
abbrev pub lower_context : Context → Area → GridStyle → Pair → Context
lower_context parent a g p = record {
  columns = context_under parent.columns a.columns g.columns (column_cells g.areas) (named_columns g.areas) p.0;
  rows = context_under
      parent.rows a.rows g.rows (row_cells g.areas) (named_rows g.areas) p.1;
}

-- The context of a grid with these links upwards, by the counts of the repetitions of it and the grids above it, its own first.
abbrev pub context_by : GridStyle → List Link → List Pair → Context
context_by g [] pairs = top_context g (first_pair pairs)
context_by g (link ∷ chain) pairs =
    let parent = context_by link.grid chain (outer_pairs pairs) in
    let areas = placed_children parent link.grid link.children in
    lower_context parent (area_of areas link.way) g (first_pair pairs)

-- ---- worked rows, in units

abbrev from_line : ℤ → ℤ → Span
from_line start end = record { start = start; end = end }

abbrev child : GridStyle → Sibling
child g = record { name = []; is_grid = false; grid = g }

-- three columns of 100 with a gap of 8, an area `a` over the last two of four cells and both rows
abbrev upper : GridStyle
upper =
    record plain_grid {
      columns = record plain_axis {
        template = template.Tracks
            (record { sizes = px_track 100 ∷ px_track 100 ∷ px_track 100 ∷ []; names = (z_name ∷ []) ∷ [] ∷ [] ∷ [] ∷ []; repeat = None });
        gap = size.Length (pos 8);
      };
      areas = Some
          (record { columns = 4; rows = 2; named = (a_name, record { columns = from_line (pos 2) (pos 4); rows = from_line (pos 0) (pos 2) }) ∷ [] });
    }

abbrev upper_context : Context
upper_context = top_context upper (1, 1)

-- Four cells are more than three tracks; two rows are explicit by the cells alone.
explicit_columns : upper_context.columns.table.tracks ≡ 4
explicit_columns = refl

explicit_rows : upper_context.rows.table.tracks ≡ 2
explicit_rows = refl

-- An item at the area `a`, and one that is free: it stands in the first cell. An item before it in order is told before it.
in_area : (placed_children upper_context upper (child plain_grid ∷
    child (record plain_grid {
      columns = record plain_axis { start_line = line.Named a_name; end_line = line.Named a_name };
      rows = record plain_axis { start_line = line.Named a_name; end_line = line.Named a_name };
      order = negsuc 0;
    }) ∷ [])).areas
    ≡ (1, record { columns = from_line (pos 2) (pos 4); rows = from_line (pos 0) (pos 2) }) ∷
    (0, record { columns = from_line (pos 0) (pos 1); rows = from_line (pos 0) (pos 1) }) ∷ []
unfolding placed_by_rows
in_area = refl

-- A subgrid over the lines 2 to 4 with the name `z` on its first line, a gap of 3 in place of 8, and margins of 1.
abbrev lower : GridStyle
lower =
    record plain_grid {
      columns = record plain_axis
          { template = template.Subgrid ((z_name ∷ []) ∷ []); gap = size.Length (pos 3); margin_start = Some (pos 1); margin_end = Some (pos 1) };
    }

abbrev lower_context_by : Context
lower_context_by = lower_context upper_context (record { columns = from_line (pos 2) (pos 4); rows = from_line (pos 0) (pos 1) }) lower (1, 1)

-- It has two tracks, and one level with the gaps of both. On its first line stand its own name and the name by the parent's area, which it takes over and
-- has from the parent's line too; on its last line the area ends.
two_tracks : lower_context_by.columns.table.tracks ≡ 2
two_tracks = refl

own_levels : lower_context_by.columns.levels ≡ record { span = from_line (pos 2) (pos 4); gap = pos 3; outer_gap = pos 8; before = pos 1; after = pos 1 } ∷ []
own_levels = refl

lower_edges : lower_context_by.columns.table.lines ≡ (z_name ∷ codes "a-start" ∷ codes "a-start" ∷ []) ∷ [] ∷ (codes "a-end" ∷ codes "a-end" ∷ []) ∷ []
lower_edges = refl

-- In the rows it is no subgrid.
no_levels : lower_context_by.rows.levels ≡ []
no_levels = refl

-- A subgrid with three name sets spans two tracks where it is free, and a node that is no grid one.
spans_its_sets : automatic_span true (template.Subgrid ([] ∷ [] ∷ [] ∷ [])) ≡ 2
spans_its_sets = refl

spans_one : automatic_span false (template.Subgrid ([] ∷ [] ∷ [] ∷ [])) ≡ 1
spans_one = refl

-- Line -7 of four tracks lies at -2, so an item of one column from there on makes the columns begin at -2.
range_reaches_out :
    (placed_children upper_context upper (child (record plain_grid { columns = record plain_axis { start_line = line.Line (negsuc 6) None } }) ∷ [])).columns
    ≡ from_line (negsuc 1) (pos 4)
unfolding placed_by_rows
range_reaches_out = refl
