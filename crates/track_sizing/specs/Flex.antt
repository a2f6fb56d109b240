-- The greatest of some fractions.
use Rattle.std.specs.Prelude.{◌≡◌, ℕ, max, ℤ, pos, ◌+ℤ◌, ◌*ℤ◌, int_lt, ◌⊎◌, List, [], ◌∷◌, map, filter, Option, Some, None, if◌then◌else◌}
use Rattle.std.specs.Int.{int_max}
use Rattle.std.specs.Ordering.{int_eq}
use Rattle.lunit.specs.Units.{IsUnits, clamp}
use Rattle.part_rules.specs.declared.fraction.FrRow.{FrRow}
use Rattle.part_rules.specs.declared.track.Fit.{Fit}
use Rattle.part_rules.specs.Fractions.{no_fraction}
use Rattle.part_rules.specs.Lists.{at_least, at_most, sum_of}
use Rattle.lunit.specs.declared.item.Item.{Item}
use Rattle.part_rules.specs.declared.fraction.Fraction.{Fraction}
use Rattle.part_rules.specs.Tracks.{Track, all_gutters, is_max_content, base_fraction, crosses_flexible, flexible, greater, item_fraction}

-- the fraction that fills a space with one flexible track
abbrev pub filled_fraction : ℤ → ℕ → ℤ → Fraction
filled_fraction base w space =
    let left = clamp (int_max (pos 0) space) in
    let weight = max 1000 w in
    if int_lt (left *ℤ pos w) (base *ℤ pos weight) then no_fraction else record { space = left; weight = weight }

-- the fraction that fills a space with one track; none where the track is not flexible
abbrev pub lone_fraction : ℤ → Option ℕ → ℤ → Fraction
lone_fraction base None space = no_fraction
lone_fraction base (Some w) space = filled_fraction base w space

-- the greatest of a fraction and those before it
abbrev pub greatest_over : Fraction → List Fraction → Fraction
greatest_over start [] = start
greatest_over start (f ∷ rest) = greater f (greatest_over start rest)

-- those of the items that cross a flexible track
abbrev pub item_fractions : ℤ → List Track → List Item → List Fraction
item_fractions gap ts items = map (item_fraction gap ts) (filter (crosses_flexible ts) items)

-- the greatest max-content contribution of some items, and of one more
abbrev pub highest : ℤ → List Item → ℤ
highest one [] = one
highest one (i ∷ rest) = highest (int_max one i.high) rest

-- the greatest fraction of items over one track
abbrev pub greatest_alone : FrRow → List Item → Fraction
greatest_alone r [] = no_fraction
greatest_alone r (i ∷ rest) = lone_fraction r.base r.factor (highest i.high rest)

-- those of the flexible tracks
abbrev pub track_fractions : List Track → List Fraction
track_fractions ts = map base_fraction (filter flexible ts)

-- a number as it was, or a length
abbrev pub IsBounded : ℤ → ℤ → Type 0
IsBounded x z = (z ≡ x) ⊎ IsUnits z

-- the total limited by the declared lengths, where that is another
abbrev pub other_total : Option ℤ → Option ℤ → ℤ → Option ℤ
other_total min most total = let bounded = at_least min (at_most most total) in (if int_eq bounded total then None else Some bounded)

-- the space for which flexible tracks are expanded again
abbrev pub space_again : {axis : ℕ} → Fit axis → List Track → List FrRow → Option ℤ
space_again fit ts done =
    if is_max_content fit.space then other_total fit.min fit.max (sum_of (map (λ (r : FrRow). r.base) done) +ℤ all_gutters fit.gap ts) else None
