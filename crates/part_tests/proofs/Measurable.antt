-- Lengths made of numbers that are not below zero are not below zero.
use Rattle.std.proofs.Common.{arith, ℤ, pos, ◌≤ℤ◌}
use Rattle.std.specs.Int.{int_min}
use Rattle.std.proofs.lemmas.Int.{ints, int_max_is, int_min_is}
use Rattle.lunit.specs.Units.{bottom, clamp, top}

pub some_length : (z : ℤ) → pos 0 ≤ℤ z → pos 0 ≤ℤ clamp z
unfolding clamp
some_length z h = omega (arith, ints, int_min_is top z, int_max_is bottom (int_min top z))
