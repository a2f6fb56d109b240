-- Rows of the size of an `fr`, worked by hand, in units. They hold by computation.
use Rattle.std.specs.Prelude.{◌≡◌, refl, ℕ, ℤ, pos, List, [], ◌∷◌, map, Some}
use Rattle.lunit.specs.Units.{clamp, floor_div}
use Rattle.part_rules.specs.declared.fraction.FrRow.{FrRow}
use Rattle.part_rules.specs.Fractions.{found, expanded, left_flexible}

abbrev flexible : ℤ → ℕ → FrRow
flexible base factor = record { base = base; factor = Some factor }

abbrev bases : List FrRow → List ℤ
bases rows = map (λ (r : FrRow). r.base) rows

-- A factor of 0 gives nothing, which is less than 86 but not less than 0: the first track is not flexible, and 96 - 86 = 10 are left for the
-- second. A weight is at least 1000.
factor_of_nothing : found (flexible (pos 86) 0 ∷ flexible (pos 0) 0 ∷ []) (pos 0) (pos 96) ≡ record { space = pos 10; weight = 1000 }
unfolding left_flexible clamp
factor_of_nothing = refl

-- The gutters pass the space, and nothing is left.
gutters_pass_space : found (flexible (pos 0) 0 ∷ []) (pos 2) (pos 0) ≡ record { space = pos 0; weight = 1000 }
unfolding left_flexible clamp
gutters_pass_space = refl

-- What is left, 1,115,993,234, is limited to 2^30. By 0.999 of it the track has more than its base size.
limited_leftover : found (flexible (pos 428647956) 999 ∷ []) (pos 0) (pos 1115993234) ≡ record { space = pos 1073741824; weight = 1000 }
unfolding left_flexible clamp
limited_leftover = refl

-- By the factor 6670.205 the first track would pass 2^30. The second would have 807,005, less than its base size, which it keeps.
limited_part : bases (expanded (record { space = pos 807005952; weight = 1000 }) (flexible (pos 0) 6670205 ∷ flexible (pos 60980734) 1 ∷ [])) ≡
    pos 1073741824 ∷ pos 60980734 ∷ []
unfolding clamp floor_div
limited_part = refl
