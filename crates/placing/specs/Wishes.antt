-- Where the children of a grid are to stand, by their numbers in document order (CSS Grid 2, 8.3).
use Rattle.std.specs.Prelude.{◌≡◌, ℕ, Bool, List, [], None, map, get_or, false}
use Rattle.line_names.specs.Tables.{IsLimit}
use Rattle.lunit.specs.declared.geometry.Area.{Area}
use Rattle.lunit.specs.declared.geometry.Span.{Span}
use Rattle.part_rules.specs.declared.wish.Wish.{Wish}
use Rattle.lunit.specs.declared.geometry.Spot.{Spot}
use Rattle.lunit.specs.declared.geometry.Spot.TheVariants.{Free}
use Rattle.lunit.specs.declared.line_value.LineValue.{LineValue}
use Rattle.lunit.specs.declared.line_value.LineValue.TheVariants.{Auto, Reach}
use Rattle.part_rules.specs.LineNames.{Table, cut_spot, resolved}
use Rattle.part_rules.specs.Placement.{placed}
use Rattle.tree_rules.specs.Chains.{Sibling}
use Rattle.tree_rules.specs.Contexts as rules
use Rattle.tree_rules.specs.Labels.{GridStyle, plain_grid}
use Rattle.placing.specs.Axes.{grid_axis}
use Rattle.placing.specs.declared.wishes.Told.{Told}
use Rattle.placing.specs.declared.wishes.Told.TheVariants as told

-- no child
abbrev pub no_sibling : Sibling
no_sibling = record { name = []; is_grid = false; grid = plain_grid }

-- where a child is to stand along an axis
abbrev pub spot_along : ℕ → Table → Bool → GridStyle → Spot
spot_along axis t is_grid g = resolved t (grid_axis axis g).start_line (grid_axis axis g).end_line (rules.automatic_span is_grid (grid_axis axis g).template)

-- where the child of a number is to stand
abbrev pub wish_by : rules.Context → List Sibling → ℕ → Wish
wish_by c siblings n = rules.wish_of c (get_or siblings n no_sibling)

-- the limit of a table
abbrev pub limit_of : Table → Span
limit_of t = record { start = t.low; end = t.high }

-- It is one of the limits that tables have.
abbrev pub IsLimitOf : Table → Type 0
IsLimitOf t = IsLimit (limit_of t)

-- the areas of the children of these numbers, before they are cut
abbrev pub areas_by : rules.Context → GridStyle → List Sibling → List ℕ → List Area
areas_by c g siblings numbers = placed (map (wish_by c siblings) numbers) (rules.shape_of c g)

-- what a line value tells
abbrev pub IsTold : Told → LineValue → Type 0
IsTold told.Nothing value = value ≡ Auto
IsTold (told.Span n) value = value ≡ Reach n None
IsTold told.Line value = Unit {0}

-- By these line values and this automatic span an item is free in its axis, and spans so many tracks.
pub record IsOpen (start end : LineValue) (automatic n : ℕ) : Type 0 where
  pub place : (t : Table) → resolved t start end automatic ≡ cut_spot t.low t.high (Free n)
