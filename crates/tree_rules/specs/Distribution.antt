-- Where the tracks of a grid and the items in their areas stand (CSS Box Alignment 3).
use Rattle.std.specs.Prelude.{refl, ℕ, ◌+◌, ◌-◌, ℤ, pos, ◌+ℤ◌, ◌-ℤ◌, ◌*ℤ◌, Bool, false, not, List, [], ◌∷◌, filter, length, Some, unwrap_or, if◌then◌else◌, true, ◌≡◌}
use Rattle.std.specs.Int.{int_max}
use Rattle.lunit.specs.Units.{clamp, floor_div}
use Rattle.lunit.specs.declared.geometry.Span.{Span}
use Rattle.part_rules.specs.declared.mode.Mode.{Mode}
use Rattle.part_rules.specs.declared.mode.Mode.TheVariants as mode
use Rattle.part_rules.specs.declared.track.Rule.{Rule}
use Rattle.part_rules.specs.declared.view.View.{View}
use Rattle.part_rules.specs.Alignment.{auto_taken, content_moved, self_moved}
use Rattle.part_rules.specs.Lists.{sum_of}
use Rattle.part_rules.specs.Views.{content_size, tracks_over, view_of}
use Rattle.style_types.specs.declared.value.Align.{Align}
use Rattle.style_types.specs.declared.value.AlignMode.{AlignMode}
use Rattle.style_types.specs.declared.value.AlignMode.TheVariants as align_mode
use Rattle.tree_rules.specs.declared.query.Given.{Given}
use Rattle.tree_rules.specs.declared.query.Given.TheVariants as given
use Rattle.tree_rules.specs.Labels.{GridAxis}
use Rattle.tree_rules.specs.NodeSizes.{inner, is_auto_margin, margin, margins, outer_end, outer_start}
use Rattle.tree_rules.specs.Repetitions.{gap_by}
use Rattle.part_rules.specs.declared.track.Least.TheVariants as least
use Rattle.part_rules.specs.declared.track.Most.TheVariants as most
use Rattle.std.specs.Prelude.{negsuc, None}
use Rattle.style_types.specs.declared.value.Size.TheVariants as size
use Rattle.tree_rules.specs.Labels.{plain_axis}

-- ---- values of alignment (CSS Box Alignment 3, section 4)

-- The way in which a value places: `flex-start` and `flex-end` are `start` and `end` for all that is laid out here, and `normal` and
-- `stretch` place as `start` (CSS Box Alignment 3, sections 4 and 6).
abbrev pub mode_of : AlignMode → Mode
mode_of align_mode.Auto = mode.Stretch
mode_of align_mode.Normal = mode.Stretch
mode_of align_mode.Stretch = mode.Stretch
mode_of align_mode.Start = mode.Start
mode_of align_mode.End = mode.End
mode_of align_mode.Center = mode.Center
mode_of align_mode.FlexStart = mode.Start
mode_of align_mode.FlexEnd = mode.End
mode_of align_mode.Between = mode.Between
mode_of align_mode.Around = mode.Around
mode_of align_mode.Evenly = mode.Evenly

-- `safe`; what says neither is unsafe
abbrev pub is_safe : Align → Bool
is_safe a = unwrap_or a.safe false

-- ---- tracks (CSS Box Alignment 3, section 5; CSS Grid 2, 7.2.3.2)

-- The tracks of an axis with their sizes, and the gap between two of them.
pub record Sized : Type 0 where
  pub rules : List Rule
  pub sizes : List ℤ
  pub gap : ℤ

-- the number of tracks that are not collapsed
abbrev pub open_tracks : List Rule → ℕ
open_tracks rules = length (filter (λ (r : Rule). not r.collapsed) rules)

-- the sizes of all tracks and the gutters between those that are not collapsed (CSS Grid 2, 7.2.3.2)
abbrev pub total_of_tracks : Sized → ℤ
total_of_tracks s = sum_of s.sizes +ℤ s.gap *ℤ pos (open_tracks s.rules - 1)

-- The start and the end of each track, where the next that is not collapsed is number k of these and would start at this place but for
-- what it is moved by. A collapsed track has no position, which is 0 here; nothing stands in it.
abbrev pub edges_from : (ℕ → ℤ) → ℤ → ℕ → ℤ → List Rule → List ℤ → List (ℤ × ℤ)
edges_from moved gap k at [] sizes = []
edges_from moved gap k at (r ∷ rules) [] = []
edges_from moved gap k at (r ∷ rules) (s ∷ sizes) =
    let start = at +ℤ moved k in
    let none = (pos 0, pos 0) ∷ edges_from moved gap k at rules sizes in
    let some = (start, start +ℤ s) ∷ edges_from moved gap (k + 1) (at +ℤ s +ℤ gap) rules sizes in
    if r.collapsed then none else some

-- The tracks in a container of this size, which the content distribution moves (CSS Box Alignment 3, section 5).
abbrev pub edges_in : Align → ℤ → Sized → List (ℤ × ℤ)
edges_in a size s =
    let free = size -ℤ total_of_tracks s in
    let n = open_tracks s.rules in
    edges_from (λ k. content_moved (mode_of a.mode) (is_safe a) free k n) s.gap 0 (pos 0) s.rules s.sizes

-- ---- an item in its area (CSS Box Alignment 3, section 6; CSS Grid 2, section 9)

-- Where the border box of an item starts, in an area of this start and size: its `auto` margins take the free space first, and its self value
-- places it in what is left (CSS Box Alignment 3, section 6; CSS Grid 2, 11.2).
abbrev pub aligned_at : Align → GridAxis → ℤ → ℤ → ℤ → ℤ
aligned_at a g start size box =
    let free = size -ℤ box -ℤ margins g in
    let taken = auto_taken free (is_auto_margin g.margin_start) (is_auto_margin g.margin_end) in
    start +ℤ margin g.margin_start +ℤ taken.0 +ℤ self_moved (mode_of a.mode) (is_safe a) (free -ℤ taken.0 -ℤ taken.1)

-- the size of the border box of a subgrid in an area of this size: less its margins, but at least its borders and paddings (the least size and
-- that `auto` margins count 0 are own rules)
abbrev pub subgrid_box : GridAxis → ℤ → ℤ
subgrid_box g size = clamp (int_max (inner g) (size -ℤ margins g))

-- The tracks of a subgrid over this span of its parent's, counted from the first one. A percentage gap is of its content size, and `normal`
-- is the parent's gap.
abbrev pub view_in : {axis : ℕ} → View axis → Span → GridAxis → View axis
view_in outer span g =
    let content = content_size (tracks_over outer.edges span) (outer_start g) (outer_end g) in
    let gap = gap_by (Some content) outer.gap g.gap in
    view_of outer span gap (outer_start g) (outer_end g)

-- what a subgrid is given that sees these tracks
abbrev pub given_view : {axis : ℕ} → View axis → Given
given_view v = given.Tracks v.edges v.gap

-- ---- worked rows, in units

abbrev fixed_rule : Bool → Rule
fixed_rule collapsed = record { least = least.Fixed (pos 0); most = most.Fixed (pos 0); collapsed = collapsed }

-- tracks of 10, 0 (collapsed) and 20 with a gap of 5
abbrev three : Sized
three = record { rules = fixed_rule false ∷ fixed_rule true ∷ fixed_rule false ∷ []; sizes = pos 10 ∷ pos 0 ∷ pos 20 ∷ []; gap = pos 5 }

abbrev by : AlignMode → Align
by m = record { mode = m; safe = None }

-- One gutter lies between the two that are not collapsed.
one_gutter : total_of_tracks three ≡ pos 35
one_gutter = refl

-- Of 56 there are 21 left, of which 10 lie before the tracks.
in_the_middle : edges_in (by align_mode.Center) (pos 56) three ≡ (pos 10, pos 20) ∷ (pos 0, pos 0) ∷ (pos 25, pos 45) ∷ []
unfolding floor_div
in_the_middle = refl

spread : edges_in (by align_mode.Between) (pos 56) three ≡ (pos 0, pos 10) ∷ (pos 0, pos 0) ∷ (pos 36, pos 56) ∷ []
unfolding floor_div
spread = refl

-- Tracks that pass the container by 5 end where it ends; under `safe` they start at its start.
at_the_end : edges_in (by align_mode.FlexEnd) (pos 30) three ≡ (negsuc 4, pos 5) ∷ (pos 0, pos 0) ∷ (pos 10, pos 30) ∷ []
at_the_end = refl

safe_end : edges_in (record { mode = align_mode.End; safe = Some true }) (pos 30) three ≡ (pos 0, pos 10) ∷ (pos 0, pos 0) ∷ (pos 15, pos 35) ∷ []
safe_end = refl

-- An item of 30 with margins of 4 and 6 in an area of 100 from 50: 60 are free, half of which lies before it.
item_in_middle : aligned_at (by align_mode.Center) (record plain_axis { margin_start = Some (pos 4); margin_end = Some (pos 6) }) (pos 50)
    (pos 100) (pos 30) ≡ pos 84
unfolding floor_div
item_in_middle = refl

-- One `auto` margin after it takes all of that, whatever its alignment.
auto_after : aligned_at (by align_mode.End) (record plain_axis { margin_start = Some (pos 4); margin_end = None }) (pos 50) (pos 100) (pos 30) ≡ pos 54
auto_after = refl

-- In an area of 20 it passes by 14: the margin takes nothing, and the item ends where the area ends.
auto_overflow : aligned_at (by align_mode.End) (record plain_axis { margin_start = Some (pos 4); margin_end = None }) (pos 50) (pos 20) (pos 30) ≡ pos 40
auto_overflow = refl

-- A subgrid in an area of 10 with margins of 4 and paddings of 9 is 9 wide.
least_subgrid : subgrid_box (record plain_axis { margin_start = Some (pos 4); padding_end = pos 9 }) (pos 10) ≡ pos 9
unfolding clamp
least_subgrid = refl

-- Two tracks of 40 with a gap of 20, seen by a subgrid with a gap of 10% of its 100: the gap is 10, and each track is 5 longer at the gutter.
percentage_gap : view_in {axis = 0} (record { edges = (pos 0, pos 40) ∷ (pos 60, pos 100) ∷ []; gap = pos 20 })
    (record { start = pos 0; end = pos 2 }) (record plain_axis { gap = size.Percent 10000 }) ≡
    record { edges = (pos 0, pos 45) ∷ (pos 55, pos 100) ∷ []; gap = pos 10 }
unfolding clamp floor_div
percentage_gap = refl
