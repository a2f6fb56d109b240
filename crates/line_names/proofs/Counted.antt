-- The width of a limit.
use Rattle.std.proofs.Common.{arith, ap, ◌≡◌, ℕ, ℤ, pos, ◌+ℤ◌, ◌-ℤ◌}
use Rattle.std.proofs.lemmas.Int.{ints}
use Rattle.part_rules.specs.Lists.{above_zero}

pub width : (low high : ℤ) (n : ℕ) → high ≡ low +ℤ pos n → above_zero (high -ℤ low) ≡ n
width low high n h = let e : high -ℤ low ≡ pos n = omega (arith, ints, h) in ap above_zero e
