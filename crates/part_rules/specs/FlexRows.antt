-- Rows of flex lines, worked by hand, in units. They hold by computation.
use Rattle.std.specs.Prelude.{◌≡◌, refl, ℕ, ℤ, pos, negsuc, true, false, [], ◌∷◌, Option, Some, None}
use Rattle.lunit.specs.Units.{clamp, floor_div}
use Rattle.part_rules.specs.declared.flex.FlexItem.{FlexItem}
use Rattle.part_rules.specs.Sharing.{handed_by_level}
use Rattle.part_rules.specs.FlexLines.{line_sizes, line_ranges, line_crosses, resolved}

abbrev item : ℤ → ℤ → Option ℤ → ℤ → ℤ → ℕ → ℕ → FlexItem
item base min max margins inner grow shrink = record { base = base; min = min; max = max; margins = margins; inner = inner; grow = grow; shrink = shrink }

-- ---- lines

-- The minimum of 365, the borders of 68 with margins of -164, and 206 with margins of 102 make 365, -96 and 308. 365 - 96 + 35 = 304 pass 239,
-- and so do -96 + 308 + 35 = 247: each item has a line.
lines_by_limited_sizes : line_ranges (pos 239) (pos 35) true
    (item (pos 91) (pos 365) None (pos 0) (pos 0) 1000 1000 ∷ item (pos 68) (pos 15) (Some (pos 25)) (negsuc 163) (pos 68) 1000 100 ∷
    item (pos 206) (pos 52) None (pos 102) (pos 0) 1 8016961 ∷ []) ≡ (0, 1) ∷ (1, 2) ∷ (2, 3) ∷ []
lines_by_limited_sizes = refl

-- 21 and 8 + 11 = 19 fill the 40 just.
full_line : line_ranges (pos 40) (pos 0) true
    (item (pos 21) (pos 19) None (pos 0) (pos 0) 0 0 ∷ item (pos 8) (pos 0) (Some (pos 12)) (pos 11) (pos 0) 100 300 ∷ []) ≡ (0, 2) ∷ []
full_line = refl

-- ---- main sizes

-- -14 + 389 = 375 are 223 too many. The weights 3 * 18 and 0.25 * (389 - 17), in thousandths 54000 and 93000, take 81 and 142: -63 and 247. The first is raised
-- to
-- 0, which is all the change, so it alone is frozen. 205 are still too many, but the factor 0.25 takes at most a quarter of 223: 389 - 55.
raised_item_frozen_first : line_sizes (pos 152) (pos 0)
    (item (pos 18) (pos 0) None (negsuc 31) (pos 0) 1 3000 ∷ item (pos 389) (pos 129) None (pos 0) (pos 17) 3000 250 ∷ []) ≡
    pos 0 ∷ pos 334 ∷ []
unfolding resolved clamp floor_div
raised_item_frozen_first = refl

-- The second item has the maximum 22 and the minimum 74, so 74, and 27 + 74 is less than 119: items grow. Its base size 102 is greater than
-- 74, so it is frozen at 74. The factor 0.25 takes floor(18 / 4) = 4 for the first.
minimum_over_maximum : line_sizes (pos 119) (pos 0)
    (item (pos 27) (pos 0) None (pos 0) (pos 16) 250 5766017 ∷ item (pos 102) (pos 74) (Some (pos 22)) (pos 0) (pos 0) 1000 0 ∷ []) ≡
    pos 31 ∷ pos 74 ∷ []
unfolding resolved clamp floor_div
minimum_over_maximum = refl

-- -40,424,766 and 445,432,092 + 189,331,084, with the gap, are less than the main size. From the base sizes 0 on 913,382,786 are given, 913,255,889
-- and 126,897. The first is lowered by more than the second is raised, so it alone is frozen, at its maximum. The 659,723,041 that are left are
-- less than 0.999 of the initial space, so the second takes all.
lowered_item_frozen_first : line_sizes (pos 1073741824) (pos 11452720)
    (item (pos 0) (pos 0) (Some (pos 253659745)) (negsuc 40424765) (pos 0) 7189658 1 ∷
    item (pos 0) (pos 445432092) None (pos 189331084) (pos 0) 999 1000 ∷ []) ≡ pos 253659745 ∷ pos 659723041 ∷ []
unfolding resolved clamp floor_div
lowered_item_frozen_first = refl

-- The gap and the second item are 1,172,030,400 too many, limited to 2^30. The weights 2 * (270,621,970 - 85,571,981) and 3 * 2^30 take
-- 110,653,247 and 963,088,577.
limited_space : line_sizes (pos 241402) (pos 98288576)
    (item (pos 270621970) (pos 0) (Some (pos 1073741824)) (negsuc 270380567) (pos 85571981) 1000 2000 ∷
    item (pos 1073741824) (pos 0) None (pos 0) (pos 0) 0 3000 ∷ []) ≡ pos 159968723 ∷ pos 110653247 ∷ []
unfolding resolved clamp floor_div
limited_space = refl

-- 2930, 12305 and 666 with gaps of 2140 are 1070 too many. The second is frozen at its minimum, as its base size is less. The factors 0.001
-- and 0.5 take floor(1070 * 0.501) = 536, all of it from the third, whose weight is the greater by far; it is raised to 4009 and frozen.
-- 1000 are still too many, but 0.001 of the initial 1070 is 1.
small_factors_twice : line_sizes (pos 16971) (pos 1070)
    (item (pos 1992) (pos 0) None (pos 938) (pos 0) 1000 1 ∷ item (pos 2379) (pos 6219) None (pos 6086) (pos 2379) 1000 1000 ∷
    item (pos 4079) (pos 4009) None (negsuc 3412) (pos 811) 500 500 ∷ []) ≡ pos 1991 ∷ pos 6219 ∷ pos 4009 ∷ []
unfolding resolved clamp floor_div
small_factors_twice = refl

-- ---- cross sizes

-- A single line of a container that wraps does not get its cross size of 94; it has that of its item, at least 0.
single_line_that_wraps : line_crosses (negsuc 23 ∷ []) ((0, 1) ∷ []) (Some (pos 94)) (pos 0) true false ≡ pos 0 ∷ []
single_line_that_wraps = refl

-- 8 less the gap of 6 is 2, for two lines.
stretched_without_gap : line_crosses (pos 0 ∷ pos 0 ∷ []) ((0, 1) ∷ (1, 2) ∷ []) (Some (pos 8)) (pos 6) true true ≡ pos 1 ∷ pos 1 ∷ []
unfolding clamp handed_by_level
stretched_without_gap = refl
