-- What rounding down gives.
use Rattle.std.proofs.Common.{arith, ℕ, ◌<◌, ℤ, pos, negsuc, ◌+ℤ◌, ◌*ℤ◌, ◌≤ℤ◌, ◌<ℤ◌}
use Rattle.std.proofs.lemmas.Int.{ints}
use Rattle.lunit.specs.Units.{floor_div}

pub floor_low : (z : ℤ) (d : ℕ) → 0 < d → (floor_div z d *ℤ pos d) ≤ℤ z
unfolding floor_div
floor_low (pos n) d h = omega (arith, ints)
floor_low (negsuc n) d h = omega (arith, ints)

pub floor_high : (z : ℤ) (d : ℕ) → 0 < d → z <ℤ (floor_div z d *ℤ pos d +ℤ pos d)
unfolding floor_div
floor_high (pos n) d h = omega (arith, ints)
floor_high (negsuc n) d h = omega (arith, ints)
