-- A number that a form reads is within the bounds of the form.
use Rattle.std.proofs.Common.{◌≡◌, arith, ℕ, zero, suc, ◌*◌, ◌/◌, ◌^◌, ◌≤◌, ℤ, pos, ◌≤ℤ◌, unsigned_abs, Bool, true, false, not, ◌&&◌, ◌||◌, List, Option, Some, None}
use Rattle.std.specs.Prelude.{IfSome, nat_lt}
use Rattle.std.proofs.Math.Nat.{div-le_of_le-mul, mul-le-mul_right, mul_right_comm, mul_comm}
use Rattle.std.proofs.lemmas.Bool.{ltb-false}
use Rattle.std.proofs.lemmas.Int.{ints}
use Rattle.lunit.specs.Decimals.{Decimal, is_allowed, is_below_zero, number_of, passes, read_allowed, read_number, signed, truncated}
use Rattle.lunit.specs.declared.number.NumberForm.{NumberForm}
use Rattle.lunit.proofs.Allowed.{size_signed}
use Rattle.page_tree.proofs.ToldOptions.{some_where, both_true, not_true, other_true}

-- a number within the bounds of a form, below zero only where the form allows it
pub record IsNumber (form : NumberForm) (z : ℤ) : Type 0 where
  pub size : unsigned_abs z ≤ form.most * form.scale
  pub sign : form.below_zero ≡ false → pos 0 ≤ℤ z

scaled : (n s p m : ℕ) → n ≤ m * p → n * s / p ≤ m * s
scaled n s p m h = div-le_of_le-mul p (omega (arith, mul-le-mul_right {m = n} {n = m * p} s h, mul_right_comm m p s, mul_comm (m * s) p))

none_signed : (negative : Bool) (n : ℕ) → n ≤ 0 → pos 0 ≤ℤ signed negative n
none_signed negative zero h = by_sign negative
  where
    by_sign : (b : Bool) → pos 0 ≤ℤ signed b 0
    by_sign true = omega (arith, ints)
    by_sign false = omega (arith, ints)
none_signed negative (suc n) h = absurd (omega (arith, h))

sign_of : (negative : Bool) (n s p : ℕ) → (negative && nat_lt 0 n) ≡ false → pos 0 ≤ℤ signed negative (n * s / p)
sign_of false n s p h = omega (arith, ints)
sign_of true n s p h =
    let none : n ≤ 0 = ltb-false 0 n h in
    let few : n * s / p ≤ 0 * s = scaled n s p 0 (omega (arith, none)) in
    none_signed true (n * s / p) (omega (arith, few))

allowed_number : (form : NumberForm) (d : Decimal) → is_allowed form d ≡ true → IsNumber form (truncated form.scale d)
allowed_number form d h =
    let parts = both_true (not (passes form.most d)) (form.below_zero || not (is_below_zero d)) h in
    let few : d.numerator ≤ form.most * 10 ^ d.places = ltb-false (form.most * 10 ^ d.places) d.numerator (not_true (passes form.most d) parts.0) in
    record {
      size = omega (arith, size_signed d.negative (d.numerator * form.scale / 10 ^ d.places), scaled d.numerator form.scale (10 ^ d.places) form.most few);
      sign = λ none. sign_of d.negative d.numerator form.scale (10 ^ d.places) (not_true (is_below_zero d) (other_true form.below_zero (not (is_below_zero d)) parts.1 none));
    }

pub number_read : (form : NumberForm) (text : List ℕ) → IfSome (read_number form text) (IsNumber form)
number_read form text = by_number (number_of text)
  where
    by_number : (o : Option Decimal) → IfSome (read_allowed form o) (IsNumber form)
    by_number None = tt
    by_number (Some d) = some_where (IsNumber form) (is_allowed form d) (Some (truncated form.scale d)) (allowed_number form d)
