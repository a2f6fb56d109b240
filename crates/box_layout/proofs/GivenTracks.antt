-- How many tracks a grid has along an axis by what it is given there, and that what it gives its children is as their frames ask for it.
use Rattle.std.proofs.Common.{arith, ap, ◌≡◌, ◌∙◌, refl, ℕ, suc, ◌+◌, ◌-◌, ℤ, pos, ◌+ℤ◌, ◌-ℤ◌, ◌*ℤ◌, ◌≤ℤ◌, Bool, true, false, List, [], ◌∷◌, length, Some, if◌then◌else◌}
use Rattle.std.specs.Prelude.{unwrap_or}
use Rattle.std.proofs.lemmas.Int.{ints}
use Rattle.lunit.specs.Units.{IsUnits, clamp}
use Rattle.lunit.specs.declared.geometry.Span.{Span}
use Rattle.part_rules.specs.Alignment.{content_moved}
use Rattle.part_rules.specs.declared.track.Fit.{Fit}
use Rattle.part_rules.specs.declared.track.Rule.{Rule}
use Rattle.part_rules.specs.declared.track.Space.{Space}
use Rattle.part_rules.specs.declared.track.Space.TheVariants.{Definite}
use Rattle.part_rules.specs.declared.view.View.{View}
use Rattle.part_rules.specs.Lists.{above_zero, sum_of}
use Rattle.part_rules.specs.Tracks.{track_sizes}
use Rattle.part_rules.specs.Views.{area_size, first_start, tracks_over}
use Rattle.placing.specs.Insides.{IsWithin}
use Rattle.placing.specs.Ranges.{IsGridAxis, IsGridStyle, IsSize}
use Rattle.tree_rules.specs.Distribution.{aligned_at, edges_from, given_view, is_safe, mode_of, open_tracks, subgrid_box, view_in}
use Rattle.tree_rules.specs.Frames.{Extent, row_extent}
use Rattle.tree_rules.specs.GridSizes.{Entry, Grid, TrackAxis, Wide, fit_of_axis, from_first, shares_columns, shares_rows, view_by, view_for, wide_of}
use Rattle.tree_rules.specs.Labels.{GridAxis, Label}
use Rattle.tree_rules.specs.NodeSizes.{Bounds, block_used, bounds_of, content_of_box, fit_to, fitted, inline_used, is_stretched, margin, margins, self_align}
use Rattle.tree_rules.specs.Queries.{IsGivenFor}
use Rattle.tree_rules.specs.Repetitions.{gap_by}
use Rattle.tree_rules.specs.TrackRules.{axis_rules, tracks_of}
use Rattle.tree_rules.specs.declared.query.Given.{Given}
use Rattle.tree_rules.specs.declared.query.Given.TheVariants as given
use Rattle.inline_sizes.proofs.Fixing.{gap_some, rules_counted}
use Rattle.inline_sizes.proofs.InRange.{inner_units}
use Rattle.inline_sizes.proofs.Lengths.{sizes_counted}
use Rattle.inline_sizes.proofs.Limits.{content_some, first_least, least_clamped}
use Rattle.inline_sizes.specs.TrackAxes.{track_count}
use Rattle.block_sizes.proofs.Seen as seen

-- ---- the tracks of an axis

edges_counted : (moves : ℕ → ℤ) (gap : ℤ) (k : ℕ) (at : ℤ) (rules : List Rule) (sizes : List ℤ) → length sizes ≡ length rules → length (edges_from moves gap k at rules sizes) ≡ length rules
edges_counted moves gap k at [] sizes e = refl
edges_counted moves gap k at (r ∷ rules) [] e = absurd (omega (arith, e))
edges_counted moves gap k at (r ∷ rules) (s ∷ sizes) e = go r.collapsed (edges_counted moves gap k at rules sizes (omega (arith, e))) (edges_counted moves gap (k + 1) (at +ℤ s +ℤ gap) rules sizes (omega (arith, e)))
  where
    go : (b : Bool) → length (edges_from moves gap k at rules sizes) ≡ length rules → length (edges_from moves gap (k + 1) (at +ℤ s +ℤ gap) rules sizes) ≡ length rules
        → length (if b then (pos 0, pos 0) ∷ edges_from moves gap k at rules sizes else (at +ℤ moves k, at +ℤ moves k +ℤ s) ∷ edges_from moves gap (k + 1) (at +ℤ s +ℤ gap) rules sizes) ≡ suc (length rules)
    go true h l = ap suc h
    go false h l = ap suc l

own_counted : (axis : ℕ) (a : TrackAxis) (size : ℤ) → length (view_for {axis = axis} a size).edges ≡ track_count a.tracks
own_counted axis a size =
    let rules : List Rule = axis_rules (Some size) a.grid a.written a.spans (tracks_of a.tracks) in
    let gap : ℤ = gap_by (Some size) (pos 0) a.grid.gap in
    let space : Space axis = Definite size in
    let fit : Fit axis = fit_of_axis a space gap in
    let sizes : List ℤ = track_sizes rules a.tracks.start a.items fit in
    let n : ℕ = open_tracks rules in
    let free : ℤ = size -ℤ (sum_of sizes +ℤ gap *ℤ pos (n - 1)) in
    edges_counted (λ k. content_moved (mode_of a.content.distribution.mode) (is_safe a.content.distribution) free k n) gap 0 (pos 0) rules sizes (sizes_counted rules a.tracks.start a.items fit)
    ∙ rules_counted (Some size) a.grid a.written a.spans a.tracks

-- as many as the axis has, where what is given fits
pub by_counted : (axis : ℕ) (a : TrackAxis) (shared : Bool) (g : Given) → IsGivenFor true shared (track_count a.tracks) g → length (view_by {axis = axis} a g).edges ≡ track_count a.tracks
by_counted axis a true given.None h = absurd h
by_counted axis a false given.None h = absurd h
by_counted axis a true (given.Size x) h = absurd h
by_counted axis a false (given.Size x) h = own_counted axis a x
by_counted axis a true (given.Tracks edges gap) h = h.0
by_counted axis a false (given.Tracks edges gap) h = absurd h

-- the gap between the tracks of an axis is not below 0
pub by_gap : (axis : ℕ) (a : TrackAxis) (shared : Bool) (g : Given) → IsSize a.grid.gap → IsGivenFor true shared (track_count a.tracks) g → pos 0 ≤ℤ (view_by {axis = axis} a g).gap
by_gap axis a true given.None s h = absurd h
by_gap axis a false given.None s h = absurd h
by_gap axis a true (given.Size x) s h = absurd h
by_gap axis a false (given.Size x) s h = gap_some (Some x) a.grid.gap s h
by_gap axis a true (given.Tracks edges gap) s h = h.1
by_gap axis a false (given.Tracks edges gap) s h = absurd h

-- ---- what a child is given

-- the tracks of its grid along an axis
pub record IsLaid {axis : ℕ} (tracks : Span) (v : View axis) : Type 0 where
  pub counted : pos (length v.edges) ≡ (tracks.end -ℤ tracks.start)
  pub gap : pos 0 ≤ℤ v.gap

pub laid : {axis : ℕ} (tracks : Span) (v : View axis) → pos (length v.edges) ≡ (tracks.end -ℤ tracks.start) → pos 0 ≤ℤ v.gap → IsLaid tracks v
laid tracks v h k = record { counted = h; gap = k }

span_same : (tracks span : Span) → above_zero ((from_first tracks span).end -ℤ (from_first tracks span).start) ≡ above_zero (span.end -ℤ span.start)
span_same tracks span = let same : (from_first tracks span).end -ℤ (from_first tracks span).start ≡ span.end -ℤ span.start = omega (arith, ints) in ap above_zero same

view_fits : {axis : ℕ} (tracks span : Span) (v : View axis) (g : GridAxis) → IsLaid tracks v → IsWithin tracks.start tracks.end span → IsGridAxis g → IsGivenFor true true (above_zero (span.end -ℤ span.start)) (given_view (view_in v (from_first tracks span) g))
view_fits tracks span v g l w axis = (
  seen.view_counted v (from_first tracks span) g (omega (arith, ints, w.low)) (omega (arith, ints, w.some)) (omega (arith, ints, w.high, l.counted)) ∙ span_same tracks span,
  seen.view_gap v (from_first tracks span) g axis l.gap,
)

pub fitted_least : (b : Bounds) (z : ℤ) → IsUnits b.inner → b.inner ≤ℤ clamp (fitted b z)
fitted_least b z h = least_clamped b.inner (fitted b z) h (first_least b.inner _)

-- as many tracks as it spans, or a size of at least 0
chosen_fits : (b : Bool) (n : ℕ) (shared own : ℤ × Given) → IsGivenFor true true n shared.1 → IsGivenFor true false n own.1 → IsGivenFor true b n (if b then shared else own).1
chosen_fits true n shared own h k = h
chosen_fits false n shared own h k = k

pub wide_fits : (g : Grid) (columns : View 0) (e : Entry) (sizes : ℤ × ℤ) → IsLaid g.placed.columns columns → IsWithin g.placed.columns.start g.placed.columns.end e.area.columns → IsGridStyle e.kid.label.grid
    → IsGivenFor true (shares_columns e.kid) (above_zero (e.area.columns.end -ℤ e.area.columns.start)) (wide_of g columns e sizes).inline
wide_fits g columns e sizes l w style =
    let x : Label = e.kid.label in
    let axis : IsGridAxis x.grid.columns = style.columns in
    let span : Span = from_first g.placed.columns e.area.columns in
    let room : ℤ = area_size (tracks_over columns.edges span) in
    let b : Bounds = bounds_of (Some room) x.content.border_box x.grid.columns x.content.inline in
    let stretched : Bool = is_stretched (self_align x.content.inline.own g.label.content.inline.items) x.grid.columns x.content.inline in
    let box : ℤ = inline_used b stretched (margins x.grid.columns) room sizes in
    let own : ℤ × Given = (box, given.Size (content_of_box b.inner box)) in
    let shared : ℤ × Given = (subgrid_box x.grid.columns room, given_view (view_in columns span x.grid.columns)) in
    chosen_fits (shares_columns e.kid) (above_zero (e.area.columns.end -ℤ e.area.columns.start)) shared own
    (view_fits g.placed.columns e.area.columns columns x.grid.columns l w axis)
    (content_some b.inner box (fitted_least b (unwrap_or b.size (if stretched then room -ℤ margins x.grid.columns else fit_to b (margins x.grid.columns) room sizes)) (inner_units x.grid.columns axis)))

chosen_extent : (b : Bool) (n : ℕ) (shared own : Extent) → IsGivenFor true true n shared.given → IsGivenFor true false n own.given → IsGivenFor true b n (if b then shared else own).given
chosen_extent true n shared own h k = h
chosen_extent false n shared own h k = k

pub row_fits : (g : Grid) (rows : View 1) (w : Wide) → IsLaid g.placed.rows rows → IsWithin g.placed.rows.start g.placed.rows.end w.entry.area.rows → IsGridStyle w.entry.kid.label.grid
    → IsGivenFor true (shares_rows w.entry.kid) (above_zero (w.entry.area.rows.end -ℤ w.entry.area.rows.start)) (row_extent g rows w).given
row_fits g rows w l inside style =
    let x : Label = w.entry.kid.label in
    let axis : IsGridAxis x.grid.rows = style.rows in
    let span : Span = from_first g.placed.rows w.entry.area.rows in
    let tracks : List (ℤ × ℤ) = tracks_over rows.edges span in
    let room : ℤ = area_size tracks in
    let b : Bounds = bounds_of (Some room) x.content.border_box x.grid.rows x.content.block in
    let stretched : Bool = is_stretched (self_align x.content.block.own g.label.content.block.items) x.grid.rows x.content.block in
    let box : ℤ = block_used b stretched (margins x.grid.rows) room w.down.block in
    let own : Extent = record { at = aligned_at (self_align x.content.block.own g.label.content.block.items) x.grid.rows (first_start tracks) room box; size = box; given = given.Size (content_of_box b.inner box) } in
    let shared : Extent = record { at = first_start tracks +ℤ margin x.grid.rows.margin_start; size = subgrid_box x.grid.rows room; given = given_view (view_in rows span x.grid.rows) } in
    chosen_extent (shares_rows w.entry.kid) (above_zero (w.entry.area.rows.end -ℤ w.entry.area.rows.start)) shared own
    (view_fits g.placed.rows w.entry.area.rows rows x.grid.rows l inside axis)
    (content_some b.inner box (fitted_least b (unwrap_or b.size (if stretched then room -ℤ margins x.grid.rows else w.down.block +ℤ b.inner)) (inner_units x.grid.rows axis)))
