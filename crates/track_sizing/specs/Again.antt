-- Sizes of tracks for a max-content space that last: for their own total as a definite space they are the same.
use Rattle.std.specs.Prelude.{◌≡◌, ℕ, ◌-◌, ℤ, pos, ◌+ℤ◌, ◌*ℤ◌, ◌≤ℤ◌, not, List, [], ◌∷◌, map, filter, length, Option, Some, None}
use Rattle.lunit.specs.Units.{top}
use Rattle.lunit.specs.declared.item.Item.{Item}
use Rattle.part_rules.specs.declared.track.Fit.{Fit}
use Rattle.part_rules.specs.declared.track.Rule.{Rule}
use Rattle.part_rules.specs.declared.track.Space.TheVariants.{Definite, MaxContent}
use Rattle.part_rules.specs.Lists.{sum_of}
use Rattle.part_rules.specs.Tracks.{Track, content_sized, fit_alone, full, total, track_sizes}
use Rattle.track_sizing.specs.Calm.{AreUntouched}

-- items of which no min-content contribution is above the max-content contribution
abbrev pub AreOrdered : List Item → Type 0
AreOrdered [] = Unit {0}
AreOrdered (i ∷ rest) = (i.low ≤ℤ i.high) × AreOrdered rest

-- a length that is not below a declared one, and one that is not above it
abbrev pub IsFrom : Option ℤ → ℤ → Type 0
IsFrom None z = Unit {0}
IsFrom (Some least) z = least ≤ℤ z

abbrev pub IsUpTo : Option ℤ → ℤ → Type 0
IsUpTo None z = Unit {0}
IsUpTo (Some most) z = z ≤ℤ most

-- a max-content space, and declared lengths that do not bind this total (CSS Grid 2, 12.6 and 12.8)
pub record IsUnbound {axis : ℕ} (fit : Fit axis) (sum : ℤ) : Type 0 where
  pub space : fit.space ≡ MaxContent
  pub min : IsFrom fit.min sum
  pub max : IsUpTo fit.max sum

-- What makes sizes last: the tracks are sized by the items of one track alone, and the total of their growth limits is not bound.
pub record AreToLast {axis : ℕ} (fit : Fit axis) (items : List Item) (ts : List Track) : Type 0 where
  pub unbound : IsUnbound fit (total fit.gap (map full (content_sized fit.space fit.gap items ts)))
  pub ordered : AreOrdered items
  pub untouched : AreUntouched fit.gap items (fit_alone fit.space fit.gap items ts)

-- the sizes and the gutters between the tracks that are not collapsed (CSS Grid 2, 7.2.3.2)
abbrev pub total_of_sizes : List Rule → ℤ → List ℤ → ℤ
total_of_sizes rules gap sizes = sum_of sizes +ℤ gap *ℤ pos (length (filter (λ (r : Rule). not r.collapsed) rules) - 1)

-- Where the total is a length, the tracks have the same sizes for a definite space of the total (CSS Grid 2, 12.3).
abbrev pub DoLast : {axis : ℕ} → List Rule → ℤ → List Item → Fit axis → List ℤ → Type 0
DoLast rules first items fit sizes =
    (t : ℤ) → t ≡ total_of_sizes rules fit.gap sizes → t ≤ℤ top → track_sizes rules first items (record fit { space = Definite t }) ≡ sizes
