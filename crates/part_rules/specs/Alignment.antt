-- Where content stands in its container, and an item in its area (CSS Box Alignment 3).
use Rattle.std.specs.Prelude.{◌≡◌, refl, ℕ, ◌+◌, ◌-◌, ◌*◌, ℤ, pos, negsuc, ◌-ℤ◌, ◌*ℤ◌, int_lt, nat_le, Bool, true, false, ◌&&◌, ◌||◌, if◌then◌else◌}
use Rattle.lunit.specs.Units.{floor_div}
use Rattle.part_rules.specs.declared.mode.Mode.{Mode}
use Rattle.part_rules.specs.declared.mode.Mode.TheVariants.{Start, End, Center, Stretch, Between, Around, Evenly}

-- ---- the content of a container (CSS Box Alignment 3, section 5)

-- the three values that put space between the subjects
abbrev pub spreads : Mode → Bool
spreads Between = true
spreads Around = true
spreads Evenly = true
spreads other = false

-- How far subject k, from 0, of n is moved by the free space. `normal` and `stretch` place as start. The roundings are own
-- rules; one subject under `space-between` stands at the start (CSS Box Alignment 3, 4.3).
abbrev pub moved : Mode → ℤ → ℕ → ℕ → ℤ
moved Start free k n = pos 0
moved End free k n = free
moved Center free k n = floor_div free 2
moved Stretch free k n = pos 0
moved Between free k n = if nat_le n 1 then pos 0 else floor_div (free *ℤ pos k) (n - 1)
moved Around free k n = floor_div (free *ℤ pos (2 * k + 1)) (2 * n)
moved Evenly free k n = floor_div (free *ℤ pos (k + 1)) (n + 1)

-- Where the subjects pass the container, the three values that spread them and every `safe` value are start (CSS Box Alignment 3,
-- 4.3 and 4.4).
abbrev pub content_moved : Mode → Bool → ℤ → ℕ → ℕ → ℤ
content_moved mode safe free k n = if int_lt free (pos 0) && (safe || spreads mode) then pos 0 else moved mode free k n

-- ---- an item in its area (CSS Box Alignment 3, section 6)

-- The start of an item in an area with this free space: area less outer size. A value that spreads has no meaning here and is start.
abbrev pub self_moved : Mode → Bool → ℤ → ℤ
self_moved mode safe free = if spreads mode || (safe && int_lt free (pos 0)) then pos 0 else moved mode free 0 1

-- ---- `auto` margins (CSS Grid 2, 11.2)

-- What the margins before and after an item take of its free space, where it is positive: one `auto` margin all of it; of two
-- the first the half rounded down and the second the rest (the rounding is an own rule).
abbrev pub margins_of : ℤ → Bool → Bool → ℤ × ℤ
margins_of free false false = (pos 0, pos 0)
margins_of free true false = (free, pos 0)
margins_of free false true = (pos 0, free)
margins_of free true true = (floor_div free 2, free -ℤ floor_div free 2)

-- what `auto` margins take: nothing where the free space is not positive, and the item is then aligned by its own value (it could
-- also be start, as on a flex line)
abbrev pub auto_taken : ℤ → Bool → Bool → ℤ × ℤ
auto_taken free before after = if int_lt (pos 0) free then margins_of free before after else (pos 0, pos 0)

-- ---- worked rows

-- Three tracks of 640 in 6400: 4480 are free, and the tracks are moved by 0, 4480 / 2 and 4480. With the tracks before
-- them they stand at 0, 640 + 2240 = 2880 and 1280 + 4480 = 5760, which is 0, 45 and 90 px.
between_row_0 : content_moved Between false (pos 4480) 0 3 ≡ pos 0
unfolding floor_div
between_row_0 = refl

between_row_1 : content_moved Between false (pos 4480) 1 3 ≡ pos 2240
unfolding floor_div
between_row_1 = refl

between_row_2 : content_moved Between false (pos 4480) 2 3 ≡ pos 4480
unfolding floor_div
between_row_2 = refl

-- Three tracks of 2560 in 6400: -1280 are free, so all is start.
between_overflow : content_moved Between false (negsuc 1279) 2 3 ≡ pos 0
between_overflow = refl

-- One subject under `space-between` stands at the start.
between_one : content_moved Between false (pos 100) 0 1 ≡ pos 0
between_one = refl

-- 100 units around three subjects: floor(100 / 6) = 16, floor(300 / 6) = 50, floor(500 / 6) = 83.
around_0 : content_moved Around false (pos 100) 0 3 ≡ pos 16
unfolding floor_div
around_0 = refl

around_1 : content_moved Around false (pos 100) 1 3 ≡ pos 50
unfolding floor_div
around_1 = refl

around_2 : content_moved Around false (pos 100) 2 3 ≡ pos 83
unfolding floor_div
around_2 = refl

-- 100 units evenly at three subjects: floor(100 / 4) = 25, 50 and 75.
evenly_2 : content_moved Evenly false (pos 100) 2 3 ≡ pos 75
unfolding floor_div
evenly_2 = refl

-- -7 under center: floor(-3.5) = -4; safe is start.
center_below : content_moved Center false (negsuc 6) 0 1 ≡ negsuc 3
unfolding floor_div
center_below = refl

center_safe : content_moved Center true (negsuc 6) 0 1 ≡ pos 0
center_safe = refl

end_below : content_moved End false (negsuc 6) 1 2 ≡ negsuc 6
end_below = refl

-- One track of 6400 is left of three in a width of 22400 under center: 16000 are free, and it stands at 8000, which is 125 px.
auto_fit_row : content_moved Center false (pos 16000) 0 1 ≡ pos 8000
unfolding floor_div
auto_fit_row = refl

-- An item of 582 in a column of 2912 under center: 1165.
self_center : self_moved Center false (pos 2330) ≡ pos 1165
unfolding floor_div
self_center = refl

self_end : self_moved End true (negsuc 9) ≡ pos 0
self_end = refl

self_stretch : self_moved Stretch false (pos 50) ≡ pos 0
self_stretch = refl

-- Two `auto` margins of 101 units: 50 and 51. Of -3 units: none.
two_margins : auto_taken (pos 101) true true ≡ (pos 50, pos 51)
unfolding floor_div
two_margins = refl

one_margin : auto_taken (pos 101) false true ≡ (pos 0, pos 101)
one_margin = refl

no_margins : auto_taken (negsuc 2) true true ≡ (pos 0, pos 0)
no_margins = refl
