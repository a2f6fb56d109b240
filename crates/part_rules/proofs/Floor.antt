-- The quotient that is rounded down, by its two bounds.
use Rattle.std.proofs.Common.{arith, ap, ◌≡◌, ℕ, ℤ, pos, negsuc, ◌+◌, ◌*◌, ◌<◌, ◌≤◌, ◌+ℤ◌, ◌*ℤ◌, ◌≤ℤ◌, ◌<ℤ◌}
use Rattle.std.proofs.lemmas.Int.{ints}
use Rattle.lunit.specs.Units.{floor_div}
use borrow.Author.Differences.{up, down, sum_is_lem}

pub floor_div_low : (z : ℤ) (d : ℕ) → 0 < d → (floor_div z d *ℤ pos d) ≤ℤ z
unfolding floor_div
floor_div_low (pos a) d h = omega (arith, ints)
floor_div_low (negsuc a) d h = omega (arith, ints)

pub floor_div_high : (z : ℤ) (d : ℕ) → 0 < d → z <ℤ (floor_div z d *ℤ pos d +ℤ pos d)
unfolding floor_div
floor_div_high (pos a) d h = omega (arith, ints)
floor_div_high (negsuc a) d h = omega (arith, ints)

cancel_nat : (m n d : ℕ) → m * d < n * d + d → m ≤ n
cancel_nat m n d h = grind arith

-- a factor may be left out on both sides
pub cancel : (x y : ℤ) (d : ℕ) → (x *ℤ pos d) <ℤ (y *ℤ pos d +ℤ pos d) → x ≤ℤ y
cancel x y d h = omega (arith, ints, cancel_nat (up x + down y) (up y + down x) d (omega (arith, ints)))

-- no other number lies between the two bounds
pub floor_div_unique : (z q : ℤ) (d : ℕ) → 0 < d → (q *ℤ pos d) ≤ℤ z → z <ℤ (q *ℤ pos d +ℤ pos d) → floor_div z d ≡ q
floor_div_unique z q d h low high =
    let a : floor_div z d ≤ℤ q = cancel (floor_div z d) q d (omega (arith, ints, floor_div_low z d h)) in
    let b : q ≤ℤ floor_div z d = cancel q (floor_div z d) d (omega (arith, ints, floor_div_high z d h)) in
    omega (arith, ints)

pub floor_div-times : (z : ℤ) (d : ℕ) → 0 < d → floor_div (z *ℤ pos d) d ≡ z
floor_div-times z d h = floor_div_unique (z *ℤ pos d) z d h (omega (arith, ints)) (omega (arith, ints))

pub floor_div-none : (z : ℤ) (d : ℕ) → 0 < d → floor_div (z *ℤ pos 0) d ≡ pos 0
floor_div-none z d h = floor_div_unique (z *ℤ pos 0) (pos 0) d h (omega (arith, ints)) (omega (arith, ints))

pub add-times : (x y : ℤ) (d : ℕ) → (x +ℤ y) *ℤ pos d ≡ x *ℤ pos d +ℤ y *ℤ pos d
add-times x y d = omega (arith, ints, ap (λ (n : ℕ). n * d) (sum_is_lem x y))

pub times-add : (x : ℤ) (m n : ℕ) → x *ℤ pos (m + n) ≡ x *ℤ pos m +ℤ x *ℤ pos n
times-add x m n = omega (arith, ints)
