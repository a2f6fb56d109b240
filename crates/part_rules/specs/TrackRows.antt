-- Rows of track sizes, worked by hand, in units. They hold by computation.
use Rattle.std.specs.Prelude.{◌≡◌, refl, ℕ, ℤ, pos, negsuc, replicate, ◌++◌, Bool, true, false, [], ◌∷◌, Option, Some, None}
use Rattle.lunit.specs.Units.{clamp, floor_div}
use Rattle.lunit.specs.declared.item.Item.{Item}
use Rattle.lunit.specs.declared.item.Floor.TheVariants.{Known, Content}
use Rattle.part_rules.specs.declared.track.Least.{Least}
use Rattle.part_rules.specs.declared.track.Least.TheVariants as least
use Rattle.part_rules.specs.declared.track.Most.{Most}
use Rattle.part_rules.specs.declared.track.Most.TheVariants as most
use Rattle.part_rules.specs.declared.track.Rule.{Rule}
use Rattle.part_rules.specs.declared.track.Space.{Space}
use Rattle.part_rules.specs.declared.track.Space.TheVariants.{Definite, MinContent, MaxContent}
use Rattle.part_rules.specs.declared.track.Fit.{Fit}
use Rattle.part_rules.specs.Sharing.{handed_by_level}
use Rattle.part_rules.specs.Fractions.{left_flexible}
use Rattle.part_rules.specs.Tracks.{track_sizes, sized, group_fitted, spans_fitted}

abbrev rule : Least → Most → Rule
rule a b = record { least = a; most = b; collapsed = false }

abbrev autos : Rule
autos = rule least.Auto most.Auto

abbrev item : ℤ → ℤ → ℤ → ℤ → ℤ → Item
item start end low high floor = record { span = record { start = start; end = end }; low = low; high = high; floor = Known floor }

abbrev flex : ℕ → Rule
flex w = rule least.Auto (most.Flex w)

-- an item with an automatic minimum of this content size, without margins, borders and paddings
abbrev content_item : ℤ → ℤ → ℤ → ℤ → ℤ → Item
content_item start end low high size = record { span = record { start = start; end = end }; low = low; high = high; floor = Content size (pos 0) (pos 0) }

-- an item with an automatic minimum of this content size, with margins, and with borders and paddings
abbrev boxed_item : ℤ → ℤ → ℤ → ℤ → ℤ → ℤ → ℤ → Item
boxed_item start end low high size margins inner = record
    { span = record { start = start; end = end }; low = low; high = high; floor = Content size margins inner }

abbrev fit : Space 0 → Option ℤ → Option ℤ → ℤ → Bool → Fit 0
fit space min max gap stretch = record { space = space; min = min; max = max; gap = gap; stretch = stretch }

abbrev within : Space 0 → Bool → Fit 0
within space stretch = fit space None None (pos 0) stretch

-- The minimum of 6401 goes to the two tracks in equal parts, the odd unit to the first. The limits follow, and nothing grows.
two_auto : track_sizes (autos ∷ autos ∷ []) (pos 0) (item (pos 0) (pos 2) (pos 6401) (pos 6401) (pos 6401) ∷ [])
    (within (Definite (pos 19200)) false) ≡ pos 3201 ∷ pos 3200 ∷ []
unfolding sized group_fitted spans_fitted handed_by_level left_flexible clamp floor_div
two_auto = refl

-- Two items over both tracks need 50 of each. The greatest counts, not the sum.
not_summed : track_sizes (autos ∷ autos ∷ []) (pos 0)
    (item (pos 0) (pos 2) (pos 100) (pos 100) (pos 100) ∷ item (pos 0) (pos 2) (pos 100) (pos 100) (pos 100) ∷ []) (within MaxContent false) ≡
    pos 50 ∷ pos 50 ∷ []
unfolding sized group_fitted spans_fitted handed_by_level left_flexible clamp floor_div
not_summed = refl

-- The growth limit is the content of 7936, at most the argument 5120; the base size 3840 grows up to it.
fit_content : track_sizes (rule least.Auto (most.Fit (pos 5120)) ∷ []) (pos 0) (item (pos 0) (pos 1) (pos 3840) (pos 7936) (pos 3840) ∷ [])
    (within (Definite (pos 19200)) false) ≡ pos 5120 ∷ []
unfolding sized group_fitted spans_fitted handed_by_level left_flexible clamp floor_div
fit_content = refl

-- The fixed track grows from 10 to its limit 20; the rest of 80 stretches the `auto` track.
fixed_then_stretched : track_sizes (rule (least.Fixed (pos 10)) (most.Fixed (pos 20)) ∷ autos ∷ []) (pos 0) ([])
    (within (Definite (pos 100)) true) ≡ pos 20 ∷ pos 80 ∷ []
unfolding sized group_fitted spans_fitted handed_by_level left_flexible clamp floor_div
fixed_then_stretched = refl

-- 6400 by three equal factors.
three_fr : track_sizes (flex 1000 ∷ flex 1000 ∷ flex 1000 ∷ []) (pos 0) ([]) (within (Definite (pos 6400)) false) ≡ pos 2133 ∷ pos 2133 ∷ pos 2134 ∷ []
unfolding sized group_fitted spans_fitted handed_by_level left_flexible clamp floor_div
three_fr = refl

-- Half of 6400 is below the content of 5120, so the other track has what is left.
fr_below_base : track_sizes (flex 1000 ∷ flex 1000 ∷ []) (pos 0)
    (item (pos 0) (pos 1) (pos 5120) (pos 5120) (pos 5120) ∷ item (pos 1) (pos 2) (pos 0) (pos 0) (pos 0) ∷ [])
    (within (Definite (pos 6400)) false) ≡ pos 5120 ∷ pos 1280 ∷ []
unfolding sized group_fitted spans_fitted handed_by_level left_flexible clamp floor_div
fr_below_base = refl

-- A factor of 0.5 alone takes half of 6400.
half_fr : track_sizes (flex 500 ∷ []) (pos 0) ([]) (within (Definite (pos 6400)) false) ≡ pos 3200 ∷ []
unfolding sized group_fitted spans_fitted handed_by_level left_flexible clamp floor_div
half_fr = refl

-- For its content the grid gives a thousandth of an `fr` the greatest of 100 over 1000 and 0 over 3000.
fr_by_content : track_sizes (flex 1000 ∷ flex 3000 ∷ []) (pos 0) (content_item (pos 0) (pos 1) (pos 100) (pos 100) (pos 100) ∷ [])
    (within MaxContent false) ≡ pos 100 ∷ pos 300 ∷ []
unfolding sized group_fitted spans_fitted handed_by_level left_flexible clamp floor_div
fr_by_content = refl

-- An `auto` track under a min-content space has the min-content contribution.
smallest : track_sizes (autos ∷ []) (pos 0) (item (pos 0) (pos 1) (pos 30) (pos 80) (pos 30) ∷ []) (within MinContent false) ≡ pos 30 ∷ []
unfolding sized group_fitted spans_fitted handed_by_level left_flexible clamp floor_div
smallest = refl

-- An `auto` track under a max-content space has the max-content contribution.
greatest : track_sizes (autos ∷ []) (pos 0) (item (pos 0) (pos 1) (pos 30) (pos 80) (pos 30) ∷ []) (within MaxContent false) ≡ pos 80 ∷ []
unfolding sized group_fitted spans_fitted handed_by_level left_flexible clamp floor_div
greatest = refl

-- With 50 it grows from 30 towards 80 as far as there is space.
between_both : track_sizes (autos ∷ []) (pos 0) (item (pos 0) (pos 1) (pos 30) (pos 80) (pos 30) ∷ []) (within (Definite (pos 50)) false) ≡ pos 50 ∷ []
unfolding sized group_fitted spans_fitted handed_by_level left_flexible clamp floor_div
between_both = refl

-- A max function `min-content` limits growth to 30.
min_content_limit : track_sizes (rule least.Auto most.MinContent ∷ []) (pos 0) (item (pos 0) (pos 1) (pos 30) (pos 80) (pos 30) ∷ [])
    (within (Definite (pos 100)) false) ≡ pos 30 ∷ []
unfolding sized group_fitted spans_fitted handed_by_level left_flexible clamp floor_div
min_content_limit = refl

-- The automatic minimum of 80 is limited by the fixed max function 50.
automatic_minimum : track_sizes (rule least.Auto (most.Fixed (pos 50)) ∷ []) (pos 0)
    (content_item (pos 0) (pos 1) (pos 80) (pos 80) (pos 80) ∷ []) (within (Definite (pos 20)) false) ≡ pos 50 ∷ []
unfolding sized group_fitted spans_fitted handed_by_level left_flexible clamp floor_div
automatic_minimum = refl

-- Over two such tracks and a gutter of 10 it is limited to 110: less the gutter, 50 for each.
automatic_minimum_gap : track_sizes (rule least.Auto (most.Fixed (pos 50)) ∷ rule least.Auto (most.Fixed (pos 50)) ∷ []) (pos 0)
    (content_item (pos 0) (pos 2) (pos 200) (pos 200) (pos 200) ∷ []) (fit (Definite (pos 20)) None None (pos 10) false) ≡
    pos 50 ∷ pos 50 ∷ []
unfolding sized group_fitted spans_fitted handed_by_level left_flexible clamp floor_div
automatic_minimum_gap = refl

-- Over two tracks of which one is flexible there is no automatic minimum.
no_automatic_minimum : track_sizes (autos ∷ flex 1000 ∷ []) (pos 0) (content_item (pos 0) (pos 2) (pos 80) (pos 80) (pos 80) ∷ [])
    (within (Definite (pos 0)) false) ≡ pos 0 ∷ pos 0 ∷ []
unfolding sized group_fitted spans_fitted handed_by_level left_flexible clamp floor_div
no_automatic_minimum = refl

-- The track between has no size and no gutters: 100 less one gutter of 10 stretches the others to 45.
collapsed : track_sizes (autos ∷ record { least = least.Auto; most = most.Auto; collapsed = true } ∷ autos ∷ []) (pos 0) ([])
    (fit (Definite (pos 100)) None None (pos 10) true) ≡ pos 45 ∷ pos 0 ∷ pos 45 ∷ []
unfolding sized group_fitted spans_fitted handed_by_level left_flexible clamp floor_div
collapsed = refl

-- Under a max-content space an `auto` track of 30 is stretched to the declared minimum of 100.
stretched_to_minimum : track_sizes (autos ∷ []) (pos 0) (item (pos 0) (pos 1) (pos 30) (pos 30) (pos 30) ∷ [])
    (fit MaxContent (Some (pos 100)) None (pos 0) true) ≡ pos 100 ∷ []
unfolding sized group_fitted spans_fitted handed_by_level left_flexible clamp floor_div
stretched_to_minimum = refl

-- The limit 80 passes the declared maximum of 50, so 20 more than the base size 30 are given.
within_maximum : track_sizes (autos ∷ []) (pos 0) (item (pos 0) (pos 1) (pos 30) (pos 80) (pos 30) ∷ [])
    (fit MaxContent None (Some (pos 50)) (pos 0) false) ≡ pos 50 ∷ []
unfolding sized group_fitted spans_fitted handed_by_level left_flexible clamp floor_div
within_maximum = refl

-- The total of 100 is below the declared minimum of 200, so the flexible track is sized for 200.
fr_to_minimum : track_sizes (flex 1000 ∷ []) (pos 0) (item (pos 0) (pos 1) (pos 100) (pos 100) (pos 100) ∷ [])
    (fit MaxContent (Some (pos 200)) None (pos 0) false) ≡ pos 200 ∷ []
unfolding sized group_fitted spans_fitted handed_by_level left_flexible clamp floor_div
fr_to_minimum = refl

-- 100 less 10: 40 to the affected track up to its limit, 20 to the other up to its limit 30, and the rest of 30 to the affected track beyond.
other_tracks : track_sizes (rule (least.Fixed (pos 10)) (most.Fixed (pos 30)) ∷ rule least.MinContent (most.Fixed (pos 40)) ∷ []) (pos 0)
    (item (pos 0) (pos 2) (pos 100) (pos 100) (pos 100) ∷ []) (within (Definite (pos 100)) false) ≡ pos 30 ∷ pos 70 ∷ []
unfolding sized group_fitted spans_fitted handed_by_level left_flexible clamp floor_div
other_tracks = refl

-- Base sizes 5 and 5; the limits follow the max-content contribution of 100 only up to the arguments, and the rest is dropped.
fit_content_limits : track_sizes (rule least.Auto (most.Fit (pos 20)) ∷ rule least.Auto (most.Fit (pos 20)) ∷ []) (pos 0)
    (item (pos 0) (pos 2) (pos 10) (pos 100) (pos 10) ∷ []) (within (Definite (pos 200)) false) ≡ pos 20 ∷ pos 20 ∷ []
unfolding sized group_fitted spans_fitted handed_by_level left_flexible clamp floor_div
fit_content_limits = refl

-- Base sizes pass the arguments where nothing else can take what is needed: 20 each, and then 30 each.
fit_content_passed : track_sizes (rule least.Auto (most.Fit (pos 20)) ∷ rule least.Auto (most.Fit (pos 20)) ∷ []) (pos 0)
    (item (pos 0) (pos 2) (pos 100) (pos 100) (pos 100) ∷ []) (within (Definite (pos 0)) false) ≡ pos 50 ∷ pos 50 ∷ []
unfolding sized group_fitted spans_fitted handed_by_level left_flexible clamp floor_div
fit_content_passed = refl

-- The first track takes 10 of the 20, as the second has 10 by its own item. The first limit had no end and becomes 10; for the
-- max-content contribution of 60 it alone still grows, to 50, and takes all of the free space.
infinitely_growable : track_sizes (autos ∷ autos ∷ []) (pos 0)
    (item (pos 1) (pos 2) (pos 10) (pos 10) (pos 10) ∷ item (pos 0) (pos 2) (pos 20) (pos 60) (pos 20) ∷ [])
    (within (Definite (pos 200)) false) ≡ pos 50 ∷ pos 10 ∷ []
unfolding sized group_fitted spans_fitted handed_by_level left_flexible clamp floor_div
infinitely_growable = refl

-- Span 2 before span 3: 6 as 3 and 3, which are then the limits, so of 12 the third track takes the rest of 6.
spans_in_order : track_sizes (autos ∷ autos ∷ autos ∷ []) (pos 0)
    (item (pos 0) (pos 3) (pos 12) (pos 12) (pos 12) ∷ item (pos 0) (pos 2) (pos 6) (pos 6) (pos 6) ∷ []) (within (Definite (pos 0)) false) ≡
    pos 3 ∷ pos 3 ∷ pos 6 ∷ []
unfolding sized group_fitted spans_fitted handed_by_level left_flexible clamp floor_div
spans_in_order = refl

-- Factors of 0: equal parts.
no_factors : track_sizes (flex 0 ∷ flex 0 ∷ []) (pos 0) (item (pos 0) (pos 2) (pos 7) (pos 7) (pos 7) ∷ []) (within (Definite (pos 0)) false) ≡
    pos 4 ∷ pos 3 ∷ []
unfolding sized group_fitted spans_fitted handed_by_level left_flexible clamp floor_div
no_factors = refl

-- Of an item that crosses a flexible track only this one is affected: 50 less the fixed 10.
only_flexible : track_sizes (rule (least.Fixed (pos 10)) (most.Fixed (pos 10)) ∷ flex 1000 ∷ []) (pos 0)
    (item (pos 0) (pos 2) (pos 50) (pos 50) (pos 50) ∷ []) (within (Definite (pos 0)) false) ≡ pos 10 ∷ pos 40 ∷ []
unfolding sized group_fitted spans_fitted handed_by_level left_flexible clamp floor_div
only_flexible = refl

-- ---- what items that span one track ask

-- `fit-content` is no fixed max function for the automatic minimum, so that is the content of 176. The min-content contribution of 40
-- is limited to the argument 36, but not below the minimum: the base size is 176. The second item asks for less than nothing. The
-- limit is the greatest max-content contribution 219, at most the argument 36, and then raised to the base size.
argument_below_content : track_sizes (rule least.Auto (most.Fit (pos 36)) ∷ []) (pos 0)
    (boxed_item (pos 0) (pos 1) (pos 40) (pos 219) (pos 176) (pos 0) (pos 17) ∷ item (pos 0) (pos 1) (negsuc 15) (pos 133) (negsuc 15) ∷ [])
    (within MaxContent true) ≡ pos 176 ∷ []
unfolding sized group_fitted spans_fitted handed_by_level left_flexible clamp floor_div
argument_below_content = refl

-- The max function of 67,108,864 less the margins of -1,073,741,807 is more than the content, so the content is not limited: with the
-- margins it makes 1,073,741,810 - 1,073,741,807 = 3. Under a definite space this minimum counts, and nothing is free.
margins_off_the_fixed_sum : track_sizes (rule least.Auto (most.Fixed (pos 67108864)) ∷ []) (pos 0)
    (boxed_item (pos 0) (pos 1) (pos 5) (pos 1073741805) (pos 1073741810) (negsuc 1073741806) (pos 7) ∷ [])
    (fit (Definite (pos 0)) (Some (pos 1073741823)) (Some (pos 1073741824)) (pos 1073741818) false) ≡ pos 3 ∷ []
unfolding sized group_fitted spans_fitted handed_by_level left_flexible clamp floor_div
margins_off_the_fixed_sum = refl

-- The max function 0 is below the min function, so the limit is 76 too. The declared maximum of 30 leaves nothing to hand out, and
-- takes nothing away.
limit_raised_to_base : track_sizes (rule (least.Fixed (pos 76)) (most.Fixed (pos 0)) ∷ []) (pos 0) ([])
    (fit MaxContent None (Some (pos 30)) (pos 0) true) ≡ pos 76 ∷ []
unfolding sized group_fitted spans_fitted handed_by_level left_flexible clamp floor_div
limit_raised_to_base = refl

-- ---- what items that span more tracks ask

-- The max functions and the gutter are 19 + 13 + 9 = 41, less the margin 40, so the content of 37 is not limited: the minimum is 38. The
-- limit 19 + 13 = 32 of the min-content contribution, without the gutter, is below it. 38 - 9 = 29 go to the tracks as 16 and 13,
-- since the second is full at 13. Under a min-content space nothing grows.
gutters_in_the_fixed_sum : track_sizes (rule least.MinContent (most.Fixed (pos 19)) ∷ rule least.Auto (most.Fixed (pos 13)) ∷ []) (negsuc 1)
    (boxed_item (negsuc 1) (pos 0) (pos 37) (pos 37) (pos 37) (pos 1) (pos 0) ∷ []) (fit MinContent None (Some (pos 30)) (pos 9) false) ≡
    pos 16 ∷ pos 13 ∷ []
unfolding sized group_fitted spans_fitted handed_by_level left_flexible clamp floor_div
gutters_in_the_fixed_sum = refl

-- First the min-content contribution, limited to 18 + 18 = 36: less the gutter 21, as 11 and 10. Then 117 for the second track alone, whose
-- min function is `min-content`: 81 are lacking. It takes 8 up to its argument, the other track 7 up to its limit, and what remains, 66,
-- goes to it beyond the argument, since no receiver is without one: 10 + 8 + 66 = 84.
other_track_and_argument : track_sizes (rule least.Auto (most.Fixed (pos 18)) ∷ rule least.MinContent (most.Fit (pos 18)) ∷ []) (negsuc 1)
    (item (negsuc 1) (pos 0) (pos 117) (pos 152) (pos 4) ∷ []) (fit MinContent (Some (pos 59)) None (pos 15) false) ≡ pos 18 ∷ pos 84 ∷ []
unfolding sized group_fitted spans_fitted handed_by_level left_flexible clamp floor_div
other_track_and_argument = refl

-- No min function is `auto`, so the minimum is the margins of 26: less the gutter 14. Up to limits the first takes 1 and the second 12;
-- the one unit that remains goes to the first of both. Then the max-content contribution for the first track: 28 - 14 - 12 = 2. It is full,
-- and the other track has no limit yet, so it takes the 2, also past its argument.
other_track_past_argument : track_sizes (rule least.MaxContent (most.Fixed (pos 1)) ∷ rule least.MinContent (most.Fit (pos 12)) ∷ []) (pos 0)
    (boxed_item (pos 0) (pos 2) (pos 0) (pos 28) (pos 0) (pos 26) (pos 0) ∷ []) (fit MinContent None None (pos 12) false) ≡
    pos 2 ∷ pos 14 ∷ []
unfolding sized group_fitted spans_fitted handed_by_level left_flexible clamp floor_div
other_track_past_argument = refl

-- The first track has 7 by the item on it alone, as base size and limit. The min-content contribution of the other lacks 39 - 7 - 5 = 27: 18 go
-- to the second track up to its argument, and 9 to the first beyond its limit: 16 and 18. The max-content contribution lacks 59 - 34 - 5 =
-- 20. Only the second counts as `max-content`, and it is at its argument, so both take 10. The limits follow the base sizes.
high_beyond_limits : track_sizes (rule least.Auto most.MinContent ∷ rule least.Auto (most.Fit (pos 18)) ∷ []) (pos 0)
    (item (pos 0) (pos 1) (pos 7) (pos 32) (pos 7) ∷ item (pos 0) (pos 2) (pos 39) (pos 59) (pos 9) ∷ [])
    (fit MaxContent (Some (pos 23)) None (pos 5) true) ≡ pos 26 ∷ pos 28 ∷ []
unfolding sized group_fitted spans_fitted handed_by_level left_flexible clamp floor_div
high_beyond_limits = refl

-- The item on the first track alone gives 24. Of the two others the one of span 2 comes first: max functions of 0 limit its content and its
-- contributions to 0, but for the track whose min function is `max-content`, which gets 11 and then all of 56. The item over three tracks
-- finds 80 and lacks nothing. With all limits, 45 + 0 + 56, the tracks pass the declared maximum of 0, so nothing more is handed out.
shorter_spans_first : track_sizes
    (rule least.Auto (most.Fixed (pos 45)) ∷ rule least.Auto (most.Fixed (pos 0)) ∷ rule least.MaxContent (most.Fixed (pos 0)) ∷ []) (pos 0)
    (item (pos 0) (pos 1) (pos 24) (pos 50) (pos 0) ∷ boxed_item (pos 0) (pos 3) (pos 3) (pos 55) (pos 10) (pos 0) (pos 21) ∷
    boxed_item (pos 1) (pos 3) (pos 11) (pos 56) (pos 63) (pos 0) (pos 0) ∷ []) (fit MaxContent None (Some (pos 0)) (pos 0) false) ≡
    pos 24 ∷ pos 0 ∷ pos 56 ∷ []
unfolding sized group_fitted spans_fitted handed_by_level left_flexible clamp floor_div
shorter_spans_first = refl

-- The arguments limit both min-content contributions, 42 and 25, to 19 + 7 = 26, which counts no gutter, and the second is below it: 26 - 3 = 23
-- are given as 16 and 7, and 25 - 3 = 22 as 15 and 7. The limits, which had no end, then grow by 42 - 23 - 3 = 16, 8 each, whatever the
-- arguments are. The max-content contributions find them past their arguments, and the tracks become as great as their limits.
greatest_minimum_in_turns : track_sizes (rule least.Auto (most.Fit (pos 19)) ∷ rule least.Auto (most.Fit (pos 7)) ∷ []) (pos 0)
    (item (pos 0) (pos 2) (pos 42) (pos 65) (pos 0) ∷ item (pos 0) (pos 2) (pos 25) (pos 45) (pos 0) ∷ [])
    (fit MaxContent None (Some (pos 69)) (pos 3) false) ≡ pos 24 ∷ pos 15 ∷ []
unfolding sized group_fitted spans_fitted handed_by_level left_flexible clamp floor_div
greatest_minimum_in_turns = refl

-- ---- growth limits

-- The minimum of 0 asks nothing of base sizes. For the min-content contribution the limits get 20 - 11 = 9, as 5 and 4. For the max-content
-- contribution only the second max function counts as `max-content`: 61 - 11 - 9 = 41 more. The base sizes grow to the limits.
limits_for_both_contributions : track_sizes (rule least.Auto most.MinContent ∷ autos ∷ []) (pos 0)
    (item (pos 0) (pos 2) (pos 20) (pos 61) (pos 0) ∷ []) (fit (Definite (pos 160)) None None (pos 11) false) ≡ pos 5 ∷ pos 45 ∷ []
unfolding sized group_fitted spans_fitted handed_by_level left_flexible clamp floor_div
limits_for_both_contributions = refl

-- The arguments sum to -48, so the limited contributions are the minimum of 0. The limits had no end, and share the min-content
-- contribution of 60. Both are then past their arguments, so the 61 that the max-content contribution lacks are dropped.
limits_past_their_arguments : track_sizes (rule least.Auto (most.Fit (negsuc 47)) ∷ rule least.Auto (most.Fit (pos 0)) ∷ []) (pos 0)
    (item (pos 0) (pos 2) (pos 60) (pos 121) (pos 0) ∷ []) (within MaxContent false) ≡ pos 30 ∷ pos 30 ∷ []
unfolding sized group_fitted spans_fitted handed_by_level left_flexible clamp floor_div
limits_past_their_arguments = refl

-- The second track has 49 by its own item, whose contributions are limited to the argument. The others find enough in the base sizes, as
-- 12 + 49 limits what they ask. For a min-content contribution its limit, which has an end, gets what is lacking: 183 - 28 - 49 - 2 = 104.
-- 28 + 153 + 2 pass the declared maximum of 129, which leaves 129 - 79 = 50 for base sizes below their limits.
limit_grows_beyond_within_maximum : track_sizes (rule (least.Fixed (pos 28)) (most.Fixed (pos 12)) ∷ rule least.Auto (most.Fit (pos 49)) ∷ [])
    (negsuc 1)
    (item (negsuc 0) (pos 0) (pos 55) (pos 109) (pos 0) ∷ boxed_item (negsuc 1) (pos 0) (pos 28) (pos 28) (negsuc 24) (pos 0) (pos 0) ∷
    item (negsuc 1) (pos 0) (pos 183) (pos 183) (pos 0) ∷ []) (fit MaxContent (Some (pos 0)) (Some (pos 129)) (pos 2) false) ≡
    pos 28 ∷ pos 99 ∷ []
unfolding sized group_fitted spans_fitted handed_by_level left_flexible clamp floor_div
limit_grows_beyond_within_maximum = refl

-- The second track has 41 and the limit 66 by its own item. The min-content contribution of 59 lacks nothing, by which the first limit ends
-- at 0; since it had no end before, it grows for the max-content contribution, and alone: 86 - 66 - 7 = 13. Then 13 and 66 are full, and
-- the 160 - 86 = 74 that are left stretch both.
grows_again_for_high : track_sizes (autos ∷ autos ∷ []) (negsuc 1)
    (item (negsuc 0) (pos 0) (pos 41) (pos 66) (pos 41) ∷ item (negsuc 1) (pos 0) (pos 59) (pos 86) (pos 0) ∷ [])
    (fit (Definite (pos 160)) None (Some (pos 55)) (pos 7) true) ≡ pos 50 ∷ pos 103 ∷ []
unfolding sized group_fitted spans_fitted handed_by_level left_flexible clamp floor_div
grows_again_for_high = refl

-- ---- items that cross flexible tracks

-- An item over two tracks of which one is flexible has no automatic minimum, but under a max-content space its min-content contribution
-- counts, and of the two tracks it asks the flexible one: 2^29. The declared minimum of 1,010,247,501 wins over the maximum of 0, but its
-- half is less than 2^29, so the track keeps its size. No track has the max function `auto`, so none is stretched.
crossing_asks_the_flexible_track : track_sizes (flex 500 ∷ rule least.MinContent most.MaxContent ∷ []) (pos 0)
    (boxed_item (pos 0) (pos 2) (pos 536870912) (pos 0) (pos 536870915) (pos 0) (pos 0) ∷ [])
    (fit MaxContent (Some (pos 1010247501)) (Some (pos 0)) (pos 0) true) ≡ pos 536870912 ∷ pos 0 ∷ []
unfolding sized group_fitted spans_fitted handed_by_level left_flexible clamp floor_div
crossing_asks_the_flexible_track = refl

-- 41 by the factors 1 and 0.25 is 32 and 9. The item on the second track has no automatic minimum, since no min function is `auto`, but 15 of
-- margins and 7 of borders: 22, which is greater than 9. Of 92 then 38 are lacking, 30 and 8, and of 29 only 7. So 62 and 30. The fraction that
-- covers the first base size is 62 over 1000; the second track keeps 30.
crossing_by_factors : track_sizes (flex 1000 ∷ rule least.MaxContent (most.Flex 250) ∷ []) (pos 0)
    (item (pos 0) (pos 2) (pos 41) (pos 92) (pos 0) ∷ boxed_item (pos 1) (pos 2) (pos 2) (pos 29) (pos 14) (pos 15) (pos 7) ∷ [])
    (within MaxContent true) ≡ pos 62 ∷ pos 30 ∷ []
unfolding sized group_fitted spans_fitted handed_by_level left_flexible clamp floor_div
crossing_by_factors = refl

-- On one track the automatic minimum counts also where the track is flexible: 12 and margins of 3. Under a min-content space no fraction
-- is given, and a declared minimum is no space for it.
automatic_minimum_on_one_flexible_track : track_sizes (flex 500 ∷ flex 1 ∷ rule least.MinContent (most.Flex 1000) ∷ []) (pos 0)
    (boxed_item (pos 1) (pos 2) (pos 12) (pos 143) (pos 12) (pos 3) (pos 1) ∷ item (pos 0) (pos 1) (pos 0) (pos 121) (pos 0) ∷ [])
    (fit MinContent (Some (pos 175)) None (pos 0) false) ≡ pos 0 ∷ pos 15 ∷ pos 0 ∷ []
unfolding sized group_fitted spans_fitted handed_by_level left_flexible clamp floor_div
automatic_minimum_on_one_flexible_track = refl

-- No min function is `auto` under the items, so the second has the minimum 1,073,741,822 + 536,870,912, limited to 2^30. Of it 67,108,864 of
-- the fixed track and the gutter go off: 225,170,549 for the third track. The item on that track asks 536,870,914 and then 691,148,970.
-- Nothing of the space 0 is free, so there is no fraction.
minimum_is_limited : track_sizes (autos ∷ rule (least.Fixed (pos 67108864)) (most.Flex 999) ∷ rule least.MaxContent (most.Flex 1000) ∷ []) (pos 0)
    (boxed_item (pos 2) (pos 3) (pos 536870914) (pos 691148970) (pos 1073741824) (pos 0) (pos 0) ∷
    boxed_item (pos 1) (pos 3) (negsuc 1073741819) (pos 1073741815) (pos 0) (pos 1073741822) (pos 536870912) ∷ [])
    (fit (Definite (pos 0)) None None (pos 781462411) false) ≡ pos 0 ∷ pos 67108864 ∷ pos 691148970 ∷ []
unfolding sized group_fitted spans_fitted handed_by_level left_flexible clamp floor_div
minimum_is_limited = refl

-- ---- the fraction, and what is left

-- The base size 0 asks no fraction, but the max-content contribution of 61 asks 61 over 3000. The minimum does not count, as the min
-- function is fixed.
fraction_by_an_item : track_sizes (rule (least.Fixed (pos 0)) (most.Flex 3000) ∷ []) (negsuc 0)
    (item (negsuc 0) (pos 0) (pos 0) (pos 61) (pos 192) ∷ []) (fit MaxContent None (Some (pos 301)) (pos 0) false) ≡ pos 61 ∷ []
unfolding sized group_fitted spans_fitted handed_by_level left_flexible clamp floor_div
fraction_by_an_item = refl

-- A base size of 60 over the factor 0.001, which counts as 1, is the fraction 60 over 1000: 30 and 60. The declared minimum is 119, so the
-- step is done again from 0 and 60: 119 over 1000 is less than 60 for the second track, which is then not flexible, and 119 - 60 = 59 over
-- 1000 makes 29 for the first.
expanded_again_from_old_sizes : track_sizes (flex 500 ∷ rule (least.Fixed (pos 60)) (most.Flex 1) ∷ []) (pos 7972) ([])
    (fit MaxContent (Some (pos 119)) None (pos 0) false) ≡ pos 29 ∷ pos 60 ∷ []
unfolding sized group_fitted spans_fitted handed_by_level left_flexible clamp floor_div
expanded_again_from_old_sizes = refl

-- The collapsed track has no gutter, so there is one of 13. The item asks 82 over 1000, which is 41. With 41 + 13 = 54 the maximum of 37 is
-- passed, but the minimum of 169 is greater still: 169 - 13 = 156 over 1000, so 78. What the minimum leaves, 169 - 78 - 13 = 78, stretches
-- the `auto` track.
minimum_before_maximum : track_sizes
    (rule (least.Fixed (pos 0)) most.Auto ∷ rule (least.Fixed (pos 21)) (most.Flex 500) ∷
    record { least = least.Fixed (pos 0); most = most.Flex 500; collapsed = true } ∷ []) (pos 0)
    (item (pos 1) (pos 2) (pos 40) (pos 82) (pos 40) ∷ []) (fit MaxContent (Some (pos 169)) (Some (pos 37)) (pos 13) true) ≡
    pos 78 ∷ pos 78 ∷ pos 0 ∷ []
unfolding sized group_fitted spans_fitted handed_by_level left_flexible clamp floor_div
minimum_before_maximum = refl

-- 500 tracks: 6401 to the first two as 3201 and 3200. The other 1,913,599 stretch all by 3827, and the first 99 by one unit more.
many_tracks : track_sizes (replicate 500 autos) (pos 0) (item (pos 0) (pos 2) (pos 6401) (pos 6401) (pos 6401) ∷ [])
    (within (Definite (pos 1920000)) true) ≡ pos 7029 ∷ pos 7028 ∷ replicate 97 (pos 3828) ++ replicate 401 (pos 3827)
unfolding sized group_fitted spans_fitted handed_by_level left_flexible clamp floor_div
many_tracks = refl
