-- The size of an `fr` and the sizes that it gives (CSS Grid 2, 12.7 and 12.7.1).
use Rattle.std.specs.Prelude.{◌≡◌, refl, ℕ, zero, suc, max, ℤ, pos, ◌-ℤ◌, ◌*ℤ◌, ◌≤ℤ◌, int_lt, int_le, Bool, ◌&&◌, List, [], ◌∷◌, map, length, Some, None, is_some, unwrap_or, if◌then◌else◌}
use Rattle.std.specs.Int.{int_max}
use Rattle.std.specs.List.{list_all, list_any}
use Rattle.lunit.specs.Units.{clamp, floor_div, top}
use Rattle.part_rules.specs.declared.fraction.FrRow.{FrRow}
use Rattle.part_rules.specs.declared.fraction.Fraction.{Fraction}
use Rattle.part_rules.specs.Lists.{sum_of, total_of, zipped}
use Rattle.part_rules.specs.Sharing.{apportioned}

-- ---- the size of an `fr` (CSS Grid 2, 12.7.1)

-- a track with a factor (CSS Grid 2, 7.2.4)
abbrev pub is_flexible : FrRow → Bool
is_flexible r = is_some r.factor

-- the factor of a flexible track, and 0 for another
abbrev pub factor_of : FrRow → ℕ
factor_of r = unwrap_or r.factor 0

-- the base size of a track that is not flexible, and 0 for another
abbrev pub held : FrRow → ℤ
held r = if is_flexible r then pos 0 else r.base

-- What the flexible tracks share: the space, less the gutters, without the base sizes of the other tracks, at least 0. It is
-- limited as each space that is shared (own rule).
abbrev pub leftover : ℤ → List FrRow → ℤ
leftover space rows = clamp (int_max (pos 0) (space -ℤ sum_of (map held rows)))

-- the sum of the factors in thousandths, at least 1000
abbrev pub weight_of : List FrRow → ℕ
weight_of rows = max 1000 (total_of (map factor_of rows))

-- a flexible track to which this fraction gives less than its base size
abbrev pub falls_short : ℤ → ℕ → FrRow → Bool
falls_short left weight r = is_flexible r && int_lt (left *ℤ pos (factor_of r)) (r.base *ℤ pos weight)

-- a track that counts as not flexible
abbrev pub inflexible : FrRow → FrRow
inflexible r = record r { factor = None }

-- a track that falls short counts as not flexible, and another stays as it is
abbrev pub settled : ℤ → ℕ → FrRow → FrRow
settled left weight r = if falls_short left weight r then inflexible r else r

-- The tracks as they count in the end. Where some flexible track falls short, all such tracks count as not flexible and the
-- step starts again with the tracks that are left. Each start leaves fewer flexible tracks, so as many starts as tracks are enough.
unfoldable pub left_flexible : ℕ → ℤ → List FrRow → List FrRow
left_flexible zero space rows = rows
left_flexible (suc starts) space rows =
    if list_any (falls_short (leftover space rows) (weight_of rows)) rows
    then left_flexible starts space (map (settled (leftover space rows) (weight_of rows)) rows)
    else rows

-- no size of an `fr`
abbrev pub no_fraction : Fraction
no_fraction = record { space = pos 0; weight = 1000 }

-- the leftover over the weight, or no fraction without flexible tracks
abbrev pub fraction_of : ℤ → List FrRow → Fraction
fraction_of space rows = if list_any is_flexible rows then record { space = leftover space rows; weight = weight_of rows } else no_fraction

-- The size of an `fr` that fills a space with these tracks and gutters.
abbrev pub found : List FrRow → ℤ → ℤ → Fraction
found rows gutters space = fraction_of (space -ℤ gutters) (left_flexible (length rows) (space -ℤ gutters) rows)

-- ---- the sizes that a fraction gives (CSS Grid 2, 12.7; the roundings are an own rule)

-- a flexible track to which the fraction gives at least its base size
abbrev pub takes : Fraction → FrRow → Bool
takes f r = is_flexible r && int_le (r.base *ℤ pos f.weight) (f.space *ℤ pos (factor_of r))

-- a track that takes no part has no weight here, and so moves no part of another
abbrev pub weight_in : Fraction → FrRow → ℕ
weight_in f r = if takes f r then factor_of r else 0

-- a track that takes part has its part as its size, limited
abbrev pub with_part : Fraction → FrRow → ℤ → FrRow
with_part f r part = if takes f r then record r { base = clamp part } else r

-- The tracks with the sizes that the fraction gives those that take part; the others keep their base sizes.
abbrev pub expanded : Fraction → List FrRow → List FrRow
expanded f rows = zipped (with_part f) rows (apportioned f.space f.weight (map (weight_in f) rows))

-- each track is at least as great as the one before it was
abbrev pub NoneBelow : List FrRow → List FrRow → Type 0
NoneBelow [] ys = Unit {0}
NoneBelow (x ∷ xs) [] = ⊥
NoneBelow (x ∷ xs) (y ∷ ys) = (x.base ≤ℤ y.base) × NoneBelow xs ys

-- base sizes within the range of lengths
abbrev pub are_bases : List FrRow → Bool
are_bases rows = list_all (λ (r : FrRow). int_le r.base top) rows

-- ---- worked rows, in units

abbrev flexible : ℤ → ℕ → FrRow
flexible base factor = record { base = base; factor = Some factor }

abbrev other : ℤ → FrRow
other base = record { base = base; factor = None }

abbrev bases : List FrRow → List ℤ
bases rows = map (λ (r : FrRow). r.base) rows

-- 6400 by three equal factors: 6400 over 3000, and the sums floor(6400 / 3) = 2133, 4266 and 6400.
three_fr : found (flexible (pos 0) 1000 ∷ flexible (pos 0) 1000 ∷ flexible (pos 0) 1000 ∷ []) (pos 0) (pos 6400) ≡ record { space = pos 6400; weight = 3000 }
unfolding left_flexible clamp
three_fr = refl

three_fr_sizes : bases
    (expanded (record { space = pos 6400; weight = 3000 }) (flexible (pos 0) 1000 ∷ flexible (pos 0) 1000 ∷ flexible (pos 0) 1000 ∷ [])) ≡
    pos 2133 ∷ pos 2133 ∷ pos 2134 ∷ []
unfolding clamp floor_div
three_fr_sizes = refl

-- The half of 6400 is below the base size 5120, so that track counts as not flexible: 1280 are left for the weight 1000.
below_base : found (flexible (pos 5120) 1000 ∷ flexible (pos 0) 1000 ∷ []) (pos 0) (pos 6400) ≡ record { space = pos 1280; weight = 1000 }
unfolding left_flexible clamp
below_base = refl

below_base_sizes : bases (expanded (record { space = pos 1280; weight = 1000 }) (flexible (pos 5120) 1000 ∷ flexible (pos 0) 1000 ∷ [])) ≡
    pos 5120 ∷ pos 1280 ∷ []
unfolding clamp floor_div
below_base_sizes = refl

-- Factors below 1 in sum leave space: the weight is 1000, and half of 6400 is taken.
half_fr : found (flexible (pos 0) 500 ∷ []) (pos 0) (pos 6400) ≡ record { space = pos 6400; weight = 1000 }
unfolding left_flexible clamp
half_fr = refl

half_fr_size : bases (expanded (record { space = pos 6400; weight = 1000 }) (flexible (pos 0) 500 ∷ [])) ≡ pos 3200 ∷ []
unfolding clamp floor_div
half_fr_size = refl

-- Two starts: 900 over 3000 gives 300 each, below 500 alone; then 400 over 2000 gives 200 each, below 250; then 150 over 1000.
two_starts : found (flexible (pos 500) 1000 ∷ flexible (pos 250) 1000 ∷ flexible (pos 0) 1000 ∷ []) (pos 0) (pos 900) ≡
    record { space = pos 150; weight = 1000 }
unfolding left_flexible clamp
two_starts = refl

-- The gutters and the track that is not flexible go off the space: 1000 - 100 - 400 = 500.
beside_other : found (other (pos 400) ∷ flexible (pos 0) 2000 ∷ []) (pos 100) (pos 1000) ≡ record { space = pos 500; weight = 2000 }
unfolding left_flexible clamp
beside_other = refl

-- Nothing is left where the gutters pass the space. A base size of 0 does not fall short of a part of 0.
no_space : found (flexible (pos 0) 1000 ∷ []) (pos 300) (pos 100) ≡ record { space = pos 0; weight = 1000 }
unfolding left_flexible clamp
no_space = refl

-- Each flexible track falls short in the end: no fraction, and the base sizes stay.
all_short : found (flexible (pos 70) 1000 ∷ flexible (pos 60) 1000 ∷ []) (pos 0) (pos 100) ≡ no_fraction
unfolding left_flexible clamp
all_short = refl

no_tracks : found [] (pos 0) (pos 100) ≡ no_fraction
unfolding left_flexible clamp
no_tracks = refl

-- 100 over 1000 by the factors 500, 0 and 300: 50, 0 and floor(80) - 50 = 30; the track of base size 40 keeps it, since 30 is less.
some_take : bases
    (expanded (record { space = pos 100; weight = 1000 })
    (flexible (pos 0) 500 ∷ flexible (pos 40) 300 ∷ flexible (pos 0) 0 ∷ flexible (pos 7) 300 ∷ [])) ≡ pos 50 ∷ pos 40 ∷ pos 0 ∷ pos 30 ∷ []
unfolding clamp floor_div
some_take = refl
