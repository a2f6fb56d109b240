-- Rows of views and of extra margins, worked by hand, in units. They hold by computation.
use Rattle.std.specs.Prelude.{◌≡◌, refl, ℤ, pos, negsuc, List, [], ◌∷◌}
use Rattle.lunit.specs.Units.{clamp, floor_div}
use Rattle.lunit.specs.declared.geometry.Span.{Span}
use Rattle.part_rules.specs.declared.view.View.{View}
use Rattle.part_rules.specs.declared.view.Level.{Level}
use Rattle.part_rules.specs.Views.{view_of, extra_before, extra_after}

abbrev span : ℤ → ℤ → Span
span start end = record { start = start; end = end }

abbrev view : List (ℤ × ℤ) → ℤ → View 0
view edges gap = record { edges = edges; gap = gap }

abbrev level : ℤ → ℤ → ℤ → ℤ → ℤ → ℤ → Level
level start end gap outer_gap before after = record
    { span = record { start = start; end = end }; gap = gap; outer_gap = outer_gap; before = before; after = after }

-- ---- views

-- A gutter of 1 seen as 0: floor(-1 / 2) = -1 before it, so the first track ends at 1, and 0 after it. 3 pass the area of 2, so the content
-- box has size 0, and the second track, which starts at 1, has size 0 too.
half_of_one_less : view_of (view ((pos 0, pos 0) ∷ (pos 1, pos 2) ∷ []) (pos 1)) (span (pos 0) (pos 2)) (pos 0) (pos 0) (pos 3) ≡
    view ((pos 0, pos 1) ∷ (pos 1, pos 1) ∷ []) (pos 0)
unfolding clamp floor_div
half_of_one_less = refl

-- 5 and 5 pass the area of 1: the content box has size 0 and begins at 5. The first track would end at 1 - 5, before it starts. The second starts
-- at 1 - 5 + 1 and ends with the content box.
edges_pass_area : view_of (view ((pos 0, pos 1) ∷ (pos 1, pos 1) ∷ []) (pos 0)) (span (pos 0) (pos 2)) (pos 1) (pos 5) (pos 5) ≡
    view ((pos 0, pos 0) ∷ (negsuc 2, pos 0) ∷ []) (pos 1)
unfolding clamp floor_div
edges_pass_area = refl

-- The area would be -12 - 3, so it is 0; with -3 before it the content box is 3 and begins at 3 - 3 = 0. A gutter of 1 seen as 0 moves ends by 1:
-- 3 + 1, 4 + 1 and -17 + 1; the last one ends with the content box.
area_below_zero : view_of (view ((pos 0, pos 2) ∷ (pos 3, pos 3) ∷ (pos 4, pos 4) ∷ (negsuc 16, negsuc 16) ∷ (negsuc 15, negsuc 11) ∷ []) (pos 1))
    (span (pos 1) (pos 5)) (pos 0) (negsuc 2) (pos 0) ≡
    view ((pos 0, pos 4) ∷ (pos 4, pos 5) ∷ (negsuc 16, negsuc 15) ∷ (negsuc 15, pos 3) ∷ []) (pos 0)
unfolding clamp floor_div
area_below_zero = refl

-- The area is limited to 2^30, so the content box is 1,073,741,824 - 92,837,405 = 980,904,419. Half of the difference 407,416,758 goes off the
-- first end and onto the second start.
limited_area : view_of (view ((pos 0, pos 473263947) ∷ (pos 534948301, pos 1138425697) ∷ []) (pos 61684354)) (span (pos 0) (pos 2))
    (pos 469101112) (pos 92837405) (pos 0) ≡ view ((pos 0, pos 176718163) ∷ (pos 645819275, pos 980904419) ∷ []) (pos 469101112)
unfolding clamp floor_div
limited_area = refl

-- The area is limited to 2^30; an edge of -58,893,456 would make the content box greater, and it is limited again. Half of the difference
-- -697,708,274 is -348,854,137: 230,290,953 + 309,015,165 + 348,854,137 and 994,441,488 + 309,015,165 - 348,854,137.
limited_content_box : view_of (view ((pos 0, pos 0) ∷ (negsuc 309015164, pos 230290953) ∷ (pos 994441488, pos 1868413283) ∷ []) (pos 764150535))
    (span (pos 1) (pos 3)) (pos 66442261) (pos 0) (negsuc 58893455) ≡
    view ((pos 0, pos 888160255) ∷ (pos 954602516, pos 1073741824) ∷ []) (pos 66442261)
unfolding clamp floor_div
limited_content_box = refl

-- ---- extra margins

-- Line 0 is the edge of the first subgrid, which has 0 there. It is line -3 of the second, an inner one: of the difference 9 the half after
-- the gutter is 5. It is line -3 of the third: -27 has -14 before and -13 after it. 0 + 5 - 13.
inner_lines_of_outer_levels : extra_before
    (level (negsuc 2) (pos 2) (pos 2) (pos 0) (pos 0) (pos 19) ∷ level (pos 0) (pos 4) (pos 9) (pos 0) (pos 0) (negsuc 6) ∷
    level (pos 4) (pos 8) (pos 2) (pos 29) (pos 13) (pos 15) ∷ []) (pos 0) ≡ negsuc 7
unfolding clamp floor_div
inner_lines_of_outer_levels = refl

-- Line 1 is the end of the first subgrid, which has 0 there. It is line -1 of the second, an inner one: floor(-21 / 2).
end_is_inner_line_outside : extra_after
    (level (negsuc 1) (negsuc 0) (pos 25) (pos 0) (pos 11) (pos 0) ∷ level (pos 0) (pos 1) (pos 0) (pos 21) (pos 1) (pos 0) ∷ []) (pos 1) ≡
    negsuc 10
unfolding clamp floor_div
end_is_inner_line_outside = refl

-- 2^30 at the end of both is limited to 2^30.
limited_after : extra_after
    (level (pos 0) (pos 2) (pos 60484113) (pos 0) (pos 0) (pos 1073741824) ∷
    level (pos 0) (pos 2) (pos 731139096) (pos 0) (pos 1073741824) (pos 1073741824) ∷ []) (pos 2) ≡ pos 1073741824
unfolding clamp floor_div
limited_after = refl

-- -1,073,741,823 at the start of both is limited to -2^30.
limited_before : extra_before
    (level (pos 0) (pos 4) (pos 0) (pos 0) (negsuc 1073741822) (pos 1073741824) ∷
    level (pos 0) (pos 3) (pos 33980887) (pos 0) (negsuc 1073741822) (pos 599209532) ∷ []) (pos 0) ≡ negsuc 1073741823
unfolding clamp floor_div
limited_before = refl
