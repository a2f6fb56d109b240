-- The tracks of its parent as a subgrid sees them, and the extra margins of its items (CSS Grid 2, section 9).
use Rattle.std.specs.Prelude.{◌≡◌, refl, ℕ, ℤ, pos, negsuc, ◌+ℤ◌, ◌-ℤ◌, List, [], ◌∷◌, slice_range, if◌then◌else◌}
use Rattle.std.specs.Int.{int_max}
use Rattle.std.specs.Ordering.{int_eq}
use Rattle.lunit.specs.Units.{clamp, floor_div}
use Rattle.lunit.specs.declared.geometry.Span.{Span}
use Rattle.part_rules.specs.declared.view.View.{View}
use Rattle.part_rules.specs.declared.view.Level.{Level}
use Rattle.part_rules.specs.Lists.{above_zero}

-- ---- areas of a view

-- the tracks over a span that is counted from the first one
abbrev pub tracks_over : List (ℤ × ℤ) → Span → List (ℤ × ℤ)
tracks_over edges span = slice_range edges (above_zero span.start) (above_zero span.end)

-- the start of the first track
abbrev pub first_start : List (ℤ × ℤ) → ℤ
first_start [] = pos 0
first_start (e ∷ rest) = e.0

-- the end of the last track
abbrev pub last_end : List (ℤ × ℤ) → ℤ
last_end [] = pos 0
last_end (e ∷ []) = e.1
last_end (e ∷ f ∷ rest) = last_end (f ∷ rest)

-- The size of the area of these tracks: from the start of the first to the end of the last, at least 0.
abbrev pub area_size : List (ℤ × ℤ) → ℤ
area_size tracks = clamp (int_max (pos 0) (last_end tracks -ℤ first_start tracks))

-- ---- views (CSS Grid 2, section 9; the moves of the inner edges and all roundings are own rules)

-- the half of a difference of gutters that lies before the gutter; the rest lies after it
abbrev pub half_before : ℤ → ℤ
half_before d = floor_div d 2

-- what of the difference lies after the gutter
abbrev pub half_after : ℤ → ℤ
half_after d = d -ℤ half_before d

-- a track that would end before it starts has size 0 at its start
abbrev pub track_between : ℤ → ℤ → ℤ × ℤ
track_between start end = (start, int_max start end)

-- where a track ends: the last one at the end of the content box, another where the parent's does, less the half difference
abbrev pub end_in : ℤ → ℤ → ℤ → ℤ × ℤ → List (ℤ × ℤ) → ℤ
end_in d origin content e [] = content
end_in d origin content e (f ∷ rest) = e.1 -ℤ origin -ℤ half_before d

-- the tracks after the first one, from the origin of the content box
abbrev pub later_tracks : ℤ → ℤ → ℤ → List (ℤ × ℤ) → List (ℤ × ℤ)
later_tracks d origin content [] = []
later_tracks d origin content (e ∷ rest) = track_between (e.0 -ℤ origin +ℤ half_after d) (end_in d origin content e rest) ∷ later_tracks d origin content rest

-- the first track begins with the content box
abbrev pub all_tracks : ℤ → ℤ → ℤ → List (ℤ × ℤ) → List (ℤ × ℤ)
all_tracks d origin content [] = []
all_tracks d origin content (e ∷ rest) = track_between (pos 0) (end_in d origin content e rest) ∷ later_tracks d origin content rest

-- the size of the content box: the area less margins, borders and paddings, at least 0 (own rule: it could also be that of a box
-- whose size is limited)
abbrev pub content_size : List (ℤ × ℤ) → ℤ → ℤ → ℤ
content_size tracks before after = clamp (int_max (pos 0) (area_size tracks -ℤ before -ℤ after))

-- the tracks as the subgrid over them sees them, where `before` and `after` are its margin, border and padding, and `d` its gutter
-- less the parent's
abbrev pub seen : ℤ → ℤ → ℤ → List (ℤ × ℤ) → List (ℤ × ℤ)
seen d before after tracks = all_tracks d (first_start tracks +ℤ before) (content_size tracks before after) tracks

-- The view of a subgrid over a span of its parent's view. Both gutters are those that are used at layout.
abbrev pub view_of : {axis : ℕ} → View axis → Span → ℤ → ℤ → ℤ → View axis
view_of outer span gap before after = record { edges = seen (gap -ℤ outer.gap) before after (tracks_over outer.edges span); gap = gap }

-- ---- extra margins (CSS Grid 2, section 9; the rule for inner lines is an own rule)

-- a subgrid's gutter less its parent's, both as for lent items, where a percentage counts 0 (own rule)
abbrev pub gap_difference : Level → ℤ
gap_difference l = l.gap -ℤ l.outer_gap

-- The extra margin before an item that starts at this line: at the subgrid's start its own margin, border and padding, at an inner
-- line the half difference of gutters that lies after the gutter; and at each what the parent gives at the same line (an inner line
-- could also have the half difference alone). It is limited at each level (it could also be once).
abbrev pub extra_before : List Level → ℤ → ℤ
extra_before [] line = pos 0
extra_before (l ∷ outer) line = clamp ((if int_eq line (pos 0) then l.before else half_after (gap_difference l)) +ℤ extra_before outer (l.span.start +ℤ line))

-- The extra margin after an item that ends at this line.
abbrev pub extra_after : List Level → ℤ → ℤ
extra_after [] line = pos 0
extra_after (l ∷ outer) line =
    clamp
    ((if int_eq line (l.span.end -ℤ l.span.start) then l.after else half_before (gap_difference l)) +ℤ extra_after outer (l.span.start +ℤ line))

-- ---- worked rows, in units

abbrev span : ℤ → ℤ → Span
span start end = record { start = start; end = end }

abbrev view : List (ℤ × ℤ) → ℤ → View 0
view edges gap = record { edges = edges; gap = gap }

-- Two tracks of 6400 with a gutter of 640, seen with a gutter of 1280: half of 640 off the first end and onto the second start.
half_gaps : view_of (view ((pos 0, pos 6400) ∷ (pos 7040, pos 13440) ∷ []) (pos 640)) (span (pos 0) (pos 2)) (pos 1280) (pos 0) (pos 0) ≡
    view ((pos 0, pos 6080) ∷ (pos 7360, pos 13440) ∷ []) (pos 1280)
unfolding clamp floor_div
half_gaps = refl

-- A gutter of 3 seen as one of 10: 3 before the gutter and 4 after it. Margin, border and padding of 5 move the origin, and 5 and 2
-- go off the area of 33.
odd_half : view_of (view ((pos 0, pos 10) ∷ (pos 13, pos 20) ∷ (pos 23, pos 33) ∷ []) (pos 3)) (span (pos 0) (pos 3)) (pos 10) (pos 5) (pos 2) ≡
    view ((pos 0, pos 2) ∷ (pos 12, pos 12) ∷ (pos 22, pos 26) ∷ []) (pos 10)
unfolding clamp floor_div
odd_half = refl

-- A gutter of 10 seen as one of 3: floor(-7 / 2) = -4, so the end moves out by 4 and the start back by 3.
narrower_gap : view_of (view ((pos 100, pos 110) ∷ (pos 120, pos 140) ∷ []) (pos 10)) (span (pos 0) (pos 2)) (pos 3) (pos 0) (pos 0) ≡
    view ((pos 0, pos 14) ∷ (pos 17, pos 40) ∷ []) (pos 3)
unfolding clamp floor_div
narrower_gap = refl

-- One track of a view, counted from its first one, has the content box alone.
one_track : view_of (view ((pos 0, pos 10) ∷ (pos 20, pos 50) ∷ []) (pos 10)) (span (pos 1) (pos 2)) (pos 4) (pos 3) (pos 7) ≡
    view ((pos 0, pos 20) ∷ []) (pos 4)
unfolding clamp floor_div
one_track = refl

-- Where margins, borders and paddings pass the area, the content box has size 0.
no_content : view_of (view ((pos 0, pos 10) ∷ []) (pos 0)) (span (pos 0) (pos 1)) (pos 0) (pos 8) (pos 8) ≡ view ((pos 0, pos 0) ∷ []) (pos 0)
unfolding clamp floor_div
no_content = refl

abbrev level : ℤ → ℤ → ℤ → ℤ → ℤ → ℤ → Level
level start end gap outer_gap before after = record
    { span = record { start = start; end = end }; gap = gap; outer_gap = outer_gap; before = before; after = after }

-- The inner line of such a subgrid: 320 on each side of the gutter.
inner_before : extra_before (level (pos 0) (pos 2) (pos 1280) (pos 640) (pos 0) (pos 0) ∷ []) (pos 1) ≡ pos 320
unfolding clamp floor_div
inner_before = refl

inner_after : extra_after (level (pos 0) (pos 2) (pos 1280) (pos 640) (pos 0) (pos 0) ∷ []) (pos 1) ≡ pos 320
unfolding clamp floor_div
inner_after = refl

-- A difference of 7: 3 before the gutter, 4 after it; of -7: -4 and -3.
odd_before : extra_before (level (pos 0) (pos 2) (pos 10) (pos 3) (pos 0) (pos 0) ∷ []) (pos 1) ≡ pos 4
unfolding clamp floor_div
odd_before = refl

odd_after : extra_after (level (pos 0) (pos 2) (pos 3) (pos 10) (pos 0) (pos 0) ∷ []) (pos 1) ≡ negsuc 3
unfolding clamp floor_div
odd_after = refl

-- Line 1 of the inner subgrid is line 2 of the outer one, which is its end: 5 as half of 10, and 7 of the outer edge.
nested_after : extra_after (level (pos 1) (pos 3) (pos 10) (pos 0) (pos 1) (pos 2) ∷ level (pos 0) (pos 2) (pos 0) (pos 0) (pos 4) (pos 7) ∷ [])
    (pos 1) ≡ pos 12
unfolding clamp floor_div
nested_after = refl

-- At the edge of both: 1 and 4.
nested_before : extra_before (level (pos 0) (pos 1) (pos 10) (pos 0) (pos 1) (pos 2) ∷ level (pos 3) (pos 5) (pos 0) (pos 0) (pos 4) (pos 7) ∷ [])
    (pos 0) ≡ pos 5
unfolding clamp floor_div
nested_before = refl

no_subgrid : extra_before [] (pos 3) ≡ pos 0
no_subgrid = refl

-- Each level is limited: 2^30 and 2^30 are 2^30.
limited_margin : extra_before
    (level (pos 0) (pos 1) (pos 0) (pos 0) (pos 1073741824) (pos 0) ∷ level (pos 0) (pos 1) (pos 0) (pos 0) (pos 1073741824) (pos 0) ∷ [])
    (pos 0) ≡ pos 1073741824
unfolding clamp floor_div
limited_margin = refl
