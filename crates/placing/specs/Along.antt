-- What lies along one axis, 0 for the columns and 1 for the rows.
use Rattle.std.specs.Prelude.{ℕ, ◌==◌, List, Option, if◌then◌else◌}
use Rattle.lunit.specs.declared.geometry.Area.{Area}
use Rattle.lunit.specs.declared.geometry.Span.{Span}
use Rattle.part_rules.specs.LineNames.{NamedSpan}
use Rattle.style_types.specs.declared.value.Areas.{Areas}
use Rattle.tree_rules.specs.Contexts as rules
use Rattle.tree_rules.specs.Labels.{GridStyle}
use Rattle.placing.specs.Axes.{grid_axis}

-- the span of an area
abbrev pub span_along : ℕ → Area → Span
span_along axis a = if axis == 0 then a.columns else a.rows

-- a named area
abbrev pub name_along : ℕ → List ℕ × Area → NamedSpan
name_along axis n = (n.0, span_along axis n.1)

-- the named areas of `grid-template-areas`
abbrev pub named_along : ℕ → Option Areas → List NamedSpan
named_along axis areas = if axis == 0 then rules.named_columns areas else rules.named_rows areas

-- the number of its cells
abbrev pub cells_along : ℕ → Option Areas → ℕ
cells_along axis areas = if axis == 0 then rules.column_cells areas else rules.row_cells areas

-- the context along an axis of a grid that sizes its tracks itself
abbrev pub own_along : ℕ → GridStyle → ℕ → rules.AxisContext
own_along axis g count = rules.own_context (grid_axis axis g) (cells_along axis g.areas) (named_along axis g.areas) count

-- of one that has the tracks of its parent over a span
abbrev pub shared_along : ℕ → rules.AxisContext → Span → GridStyle → rules.AxisContext
shared_along axis parent span g = rules.shared_context parent span (grid_axis axis g) (named_along axis g.areas)

-- the context along an axis of a grid under a parent, of either kind
abbrev pub along_under : ℕ → rules.AxisContext → Span → GridStyle → ℕ → rules.AxisContext
along_under axis parent span g count = rules.context_under parent span (grid_axis axis g) (cells_along axis g.areas) (named_along axis g.areas) count
