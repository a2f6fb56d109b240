-- The fraction that fills a space with one track.
use Rattle.std.proofs.Common.{arith, ap, ◌≡◌, ◌∙◌, refl, ℕ, max, ◌+◌, ℤ, pos, ◌-ℤ◌, ◌*ℤ◌, Bool, true, false, ◌||◌, List, [], ◌∷◌, length, get_or, Option, Some, None, if◌then◌else◌, int_lt}
use Rattle.std.specs.Int.{int_max}
use Rattle.std.proofs.lemmas.Int.{ints}
use Rattle.lunit.specs.Units.{clamp}
use Rattle.part_rules.specs.declared.fraction.FrRow.{FrRow}
use Rattle.part_rules.specs.declared.fraction.Fraction.{Fraction}
use Rattle.part_rules.specs.Fractions.{fraction_of, inflexible, left_flexible, leftover, no_fraction, weight_of}
use Rattle.track_sizing.specs.Flex.{filled_fraction, lone_fraction}

-- what is found where the track falls short, or not
abbrev found_by : ℤ → FrRow → Bool → Fraction
found_by space r b = fraction_of space (if b || false then (if b then inflexible r else r) ∷ [] else r ∷ [])

filled_found : (base space : ℤ) (w : ℕ) → filled_fraction base w space ≡ fraction_of space (left_flexible 1 space (record { base = base; factor = Some w } ∷ []))
unfolding left_flexible
filled_found base space w =
    ap (λ (z : ℤ). if int_lt (clamp (int_max (pos 0) z) *ℤ pos w) (base *ℤ pos (max 1000 w)) then no_fraction else record { space = clamp (int_max (pos 0) z); weight = max 1000 w }) (let e : space ≡ space -ℤ pos 0 = omega (arith, ints) in e)
    ∙ ap (λ (v : ℕ). if int_lt (left *ℤ pos w) (base *ℤ pos (max 1000 v)) then no_fraction else record { space = left; weight = max 1000 v }) (let e : w ≡ w + 0 = omega arith in e)
    ∙ go (int_lt (left *ℤ pos w) (base *ℤ pos weight))
  where
    r : FrRow
    r = record { base = base; factor = Some w }

    left : ℤ
    left = leftover space (r ∷ [])

    weight : ℕ
    weight = weight_of (r ∷ [])

    go : (b : Bool) → (if b then no_fraction else record { space = left; weight = weight }) ≡ found_by space r b
    go true = refl
    go false = refl

pub one_found : (base space : ℤ) (o : Option ℕ) → lone_fraction base o space ≡ fraction_of space (left_flexible 1 space (record { base = base; factor = o } ∷ []))
unfolding left_flexible
one_found base space None = refl
one_found base space (Some w) = filled_found base space w

pub lone_found : (space : ℤ) (rows : List FrRow) (r : FrRow) (now : Fraction) → now ≡ lone_fraction r.base r.factor space → length rows ≡ 1 → r ≡ get_or rows 0 r → now ≡ fraction_of space (left_flexible (length rows) space rows)
lone_found space [] r now v n e = absurd (omega arith)
lone_found space (x ∷ []) r now v n e = v ∙ ap (λ (y : FrRow). lone_fraction y.base y.factor space) e ∙ one_found x.base space x.factor
lone_found space (x ∷ y ∷ rest) r now v n e = absurd (omega arith)
