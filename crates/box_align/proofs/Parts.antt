-- A part of a space is no greater than the space.
use Rattle.std.proofs.Common.{arith, ℕ, ℤ, pos, negsuc, ◌+◌, ◌*◌, ◌<◌, ◌≤◌, ◌*ℤ◌, ◌≤ℤ◌, unsigned_abs}
use Rattle.std.proofs.lemmas.Int.{ints}
use Rattle.lunit.specs.Units.{floor_div}
use Rattle.part_rules.proofs.Floor.{floor_div_low, floor_div_high, cancel}

more : (a m n : ℕ) → m ≤ n → a * m ≤ a * n
more a m n h = grind arith

pub within : (free : ℤ) (count of : ℕ) → 0 < of → count ≤ of → unsigned_abs (floor_div (free *ℤ pos count) of) ≤ unsigned_abs free
within (pos a) count of some h =
    let q : ℤ = floor_div (pos a *ℤ pos count) of in
    let low : pos 0 ≤ℤ q = cancel (pos 0) q of (omega (arith, ints, floor_div_high (pos a *ℤ pos count) of some)) in
    let high : q ≤ℤ pos a = cancel q (pos a) of (omega (arith, ints, floor_div_low (pos a *ℤ pos count) of some, more a count of h)) in
    omega (arith, ints)
within (negsuc a) count of some h =
    let q : ℤ = floor_div (negsuc a *ℤ pos count) of in
    let high : q ≤ℤ pos 0 = cancel q (pos 0) of (omega (arith, ints, floor_div_low (negsuc a *ℤ pos count) of some)) in
    let low : negsuc a ≤ℤ q = cancel (negsuc a) q of (omega (arith, ints, floor_div_high (negsuc a *ℤ pos count) of some, more (a + 1) count of h)) in
    omega (arith, ints)
