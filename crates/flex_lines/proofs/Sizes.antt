-- Limited sizes are sizes, and limited lengths are lengths.
use Rattle.std.proofs.Common.{arith, ◌≡◌, refl, ℕ, ◌*◌, ◌/◌, ◌<◌, ℤ, pos, negsuc, ◌*ℤ◌, ◌≤ℤ◌}
use Rattle.std.specs.Int.{int_max, int_min}
use Rattle.std.proofs.lemmas.Int.{ints, int_max_is, int_min_is}
use Rattle.lunit.specs.Units.{IsUnits, bottom, top, clamp, floor_div}
use Rattle.part_rules.specs.Sharing.{part}
use Rattle.part_rules.proofs.Floor.{cancel, floor_div_high}
use Rattle.flex_lines.specs.Ranges.{IsSize}

pub at_most_size : (limit number : ℤ) → IsUnits limit → IsSize number → IsSize (int_min limit number)
at_most_size limit number u s = (omega (arith, ints, u.0, u.1, s.0, s.1, int_min_is limit number), omega (arith, ints, u.0, u.1, s.0, s.1, int_min_is limit number))

pub at_most_units : (limit number : ℤ) → IsUnits limit → IsUnits number → IsUnits (int_min limit number)
at_most_units limit number u s = (omega (arith, ints, u.0, u.1, s.0, s.1, int_min_is limit number), omega (arith, ints, u.0, u.1, s.0, s.1, int_min_is limit number))

pub at_least_size : (limit number : ℤ) → IsUnits limit → IsSize number → IsSize (int_max limit number)
at_least_size limit number u s = (omega (arith, ints, u.0, u.1, s.0, s.1, int_max_is limit number), omega (arith, ints, u.0, u.1, s.0, s.1, int_max_is limit number))

pub at_least_units : (limit number : ℤ) → IsUnits limit → IsUnits number → IsUnits (int_max limit number)
at_least_units limit number u s = (omega (arith, ints, u.0, u.1, s.0, s.1, int_max_is limit number), omega (arith, ints, u.0, u.1, s.0, s.1, int_max_is limit number))

-- a length is within the limits
pub clamp_units : (z : ℤ) → IsUnits z → clamp z ≡ z
unfolding clamp
clamp_units z h = omega (arith, ints, int_min_is top z, int_max_is bottom (int_min top z))

-- a number that is at least 0 is so as a length
pub some_size : (r z : ℤ) → r ≡ clamp (int_max (pos 0) z) → pos 0 ≤ℤ r
unfolding clamp
some_size r z e = omega (arith, ints, e, int_max_is (pos 0) z, int_min_is top (int_max (pos 0) z), int_max_is bottom (int_min top (int_max (pos 0) z)))

-- a part of a length that is at least 0 is at least 0
some_part : (z : ℤ) (d : ℕ) → 0 < d → pos 0 ≤ℤ z → pos 0 ≤ℤ floor_div z d
some_part z d some h = cancel (pos 0) (floor_div z d) d (omega (arith, ints, h, floor_div_high z d some))

some_times : (z : ℤ) (n : ℕ) → pos 0 ≤ℤ z → pos 0 ≤ℤ (z *ℤ pos n)
some_times (pos a) n h = omega (arith, ints)
some_times (negsuc a) n h = absurd (omega (arith, ints, h))

pub given_range : (initial whole : ℤ) (factors : ℕ) → pos 0 ≤ℤ initial → pos 0 ≤ℤ whole → IsUnits whole
    → (let least : ℤ = int_min whole (floor_div (initial *ℤ pos factors) 1000) in (pos 0 ≤ℤ least) × IsUnits least)
given_range initial whole factors h k u =
    let part : ℤ = floor_div (initial *ℤ pos factors) 1000 in
    let some : pos 0 ≤ℤ part = some_part (initial *ℤ pos factors) 1000 (omega arith) (some_times initial factors h) in
    (omega (arith, ints, k, some, int_min_is whole part), (omega (arith, ints, k, some, u.1, int_min_is whole part), omega (arith, ints, u.1, int_min_is whole part)))

-- a part of a length that is at least 0
pub part_is : (space whole weight : ℕ) → pos (space * weight / whole) ≡ part (pos space) whole weight
unfolding floor_div
part_is space whole weight = refl
