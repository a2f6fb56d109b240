-- The printed decimal is the exact number, and reads back.
use Rattle.std.proofs.Common.{arith, ap, sym, refl, ◌∙◌, ◌≡◌, ℕ, ℤ, pos, negsuc, ◌+◌, ◌*◌, ◌/◌, ◌%◌, ◌^◌, ◌<◌, ◌≤◌, ◌<ℤ◌, ◌≤ℤ◌, Bool, true, false, not, ◌==◌, ◌&&◌, ◌||◌, nat_lt, nat_le, unsigned_abs, List, [], ◌∷◌, ◌++◌, length, take, drop, Option, Some, None, Ok, if◌then◌else◌, subst, decimal}
use Rattle.std.specs.List.{position_or_len}
use Rattle.std.proofs.lemmas.Bool.{and_parts, and_from, eqb-true, leb-true, ne_eqb, le-ltb, lt-ltb, agree_below, agree_below_at}
use Rattle.std.proofs.lemmas.Nat.{mod_below, div-add-mod'}
use Rattle.std.proofs.lemmas.Int.{ints}
use Rattle.std.proofs.lemmas.Fmt.{digits_decimal, digits_value-decimal, decimal_nonempty}
use Rattle.std.proofs.lemmas.List.{length-take}
use Rattle.std.proofs.Math.Seq.{take-append_seam, drop-append-add}
use Rattle.std.proofs.Math.Nat.{mul-le-mul_right, mul-div_cancel, add-mul, mul_right_comm}
use Rattle.lunit.specs.Decimals.{Decimal, is_digit, all_digits, digits_number, is_point, has_minus, without_sign, whole_part, decimal_part, decimal_of, decimal_or_none, number_of, signed, truncated, read_allowed, length_or_bad, read_units}
use Rattle.lunit.specs.Forms.{lengths}
use Rattle.lunit.specs.Printed.{six_digits, without_last_zeros, after_point, is_negative, minus_of, printed, IsExactly}
use Rattle.lunit.proofs.Numerals.{own, digits_number-append, power_above_zero}

-- the digits that are printed of so many sixty-fourths
abbrev shown : ℕ → List ℕ
shown parts = without_last_zeros (six_digits (parts * 15625))

abbrev is_right : ℕ → Bool
is_right parts = all_digits (shown parts) && digits_number (shown parts) * 64 == parts * 10 ^ length (shown parts)

all_right : agree_below is_right (λ _. true) 64 ≡ true
all_right = refl

right_at : (r : ℕ) → r < 64 → (all_digits (shown r) ≡ true) × (digits_number (shown r) * 64 ≡ r * 10 ^ length (shown r))
right_at r h =
    let both : (all_digits (shown r) ≡ true) × ((digits_number (shown r) * 64 == r * 10 ^ length (shown r)) ≡ true) = and_parts (all_digits (shown r)) (digits_number (shown r) * 64 == r * 10 ^ length (shown r)) (agree_below_at is_right (λ _. true) 64 r all_right h) in
    (both.0, eqb-true (digits_number (shown r) * 64) (r * 10 ^ length (shown r)) both.1)

-- the first point after digits
point_past : (ds t : List ℕ) → all_digits ds ≡ true → position_or_len is_point (ds ++ t) ≡ length ds + position_or_len is_point t
point_past [] t h = omega arith
point_past (d ∷ ds) t h =
    let parts : (is_digit d ≡ true) × (all_digits ds ≡ true) = and_parts (is_digit d) (all_digits ds) h in
    let bounds : (nat_le 48 d ≡ true) × (nat_le d 57 ≡ true) = and_parts (nat_le 48 d) (nat_le d 57) parts.0 in
    ap (λ (b : Bool). if not b then 1 + position_or_len is_point (ds ++ t) else 0) (ne_eqb d 46 (λ e. omega (arith, e, leb-true 48 d bounds.0)))
    ∙ omega (arith, point_past ds t parts.1)

no_point : (f : List ℕ) → position_or_len is_point (after_point f) ≡ 0
no_point [] = refl
no_point (d ∷ f) = refl

point_off : (f : List ℕ) → drop 1 (after_point f) ≡ f
point_off [] = refl
point_off (d ∷ f) = refl

place_is : (ds f : List ℕ) → all_digits ds ≡ true → position_or_len is_point (ds ++ after_point f) ≡ length ds
place_is ds f h = omega (arith, point_past ds (after_point f) h, no_point f)

whole_is : (ds f : List ℕ) → all_digits ds ≡ true → whole_part (ds ++ after_point f) ≡ ds
whole_is ds f h = ap (λ (n : ℕ). take n (ds ++ after_point f)) (place_is ds f h) ∙ take-append_seam ds (after_point f)

decimals_are : (ds f : List ℕ) → all_digits ds ≡ true → decimal_part (ds ++ after_point f) ≡ f
decimals_are ds f h = ap (λ (n : ℕ). drop (n + 1) (ds ++ after_point f)) (place_is ds f h) ∙ drop-append-add ds (after_point f) 1 ∙ point_off f

pub minus_written : (u : ℤ) → u <ℤ pos 0 → 45 ∷ [] ≡ minus_of u
minus_written (pos n) h = absurd (omega (arith, ints, h))
minus_written (negsuc n) h = refl

pub minus_left_out : (u : ℤ) → pos 0 ≤ℤ u → [] ≡ minus_of u
minus_left_out (pos n) h = refl
minus_left_out (negsuc n) h = absurd (omega (arith, ints, h))

-- the exact number of a text of digits
unsigned_is : (negative : Bool) (ds f : List ℕ) → all_digits ds ≡ true → all_digits f ≡ true → 0 < length ds → decimal_or_none negative (whole_part (ds ++ after_point f)) (decimal_part (ds ++ after_point f)) ≡ Some (decimal_of negative ds f)
unsigned_is negative ds f h g some =
    (λ i. decimal_or_none negative (whole_is ds f h i) (decimals_are ds f h i))
    ∙ ap (λ (b : Bool). if b then Some (decimal_of negative ds f) else None) (and_from (all_digits ds && all_digits f) (nat_lt 0 (length ds + length f)) (and_from (all_digits ds) (all_digits f) h g) (lt-ltb 0 (length ds + length f) (omega (arith, some))))

-- a text of digits has no sign
no_sign : (ds t : List ℕ) → all_digits ds ≡ true → 0 < length ds → (has_minus (ds ++ t) ≡ false) × (without_sign (ds ++ t) ≡ ds ++ t)
no_sign [] t h some = absurd (omega (arith, some))
no_sign (d ∷ ds) t h some =
    let bounds : (nat_le 48 d ≡ true) × (nat_le d 57 ≡ true) = and_parts (nat_le 48 d) (nat_le d 57) (and_parts (is_digit d) (all_digits ds) h).0 in
    let no_plus : (d == 43) ≡ false = ne_eqb d 43 (λ e. omega (arith, e, leb-true 48 d bounds.0)) in
    let no_minus : (d == 45) ≡ false = ne_eqb d 45 (λ e. omega (arith, e, leb-true 48 d bounds.0)) in
    (no_minus, ap (λ (b : Bool). if b || d == 45 then ds ++ t else d ∷ (ds ++ t)) no_plus ∙ ap (λ (b : Bool). if b then ds ++ t else d ∷ (ds ++ t)) no_minus)

number_is : (u : ℤ) (ds f : List ℕ) → all_digits ds ≡ true → all_digits f ≡ true → 0 < length ds → number_of (minus_of u ++ ds ++ after_point f) ≡ Some (decimal_of (is_negative u) ds f)
number_is (pos n) ds f h g some =
    let plain : (has_minus (ds ++ after_point f) ≡ false) × (without_sign (ds ++ after_point f) ≡ ds ++ after_point f) = no_sign ds (after_point f) h some in
    (λ i. decimal_or_none (plain.0 i) (whole_part (plain.1 i)) (decimal_part (plain.1 i))) ∙ unsigned_is false ds f h g some
number_is (negsuc n) ds f h g some = unsigned_is true ds f h g some

sum_of : (m w r v p : ℕ) → w * 64 + r ≡ m → v * 64 ≡ r * p → (w * p + v) * 64 ≡ m * p
sum_of m w r v p e f = omega (arith, f, ap (λ (k : ℕ). k * p) e, add-mul (w * 64) r p, add-mul (w * p) v 64, mul_right_comm w 64 p)

-- the printed decimal is units / 64
pub exactly_printed : (u : ℤ) → unsigned_abs u ≤ 2 ^ 56 → IsExactly u (printed u)
exactly_printed u h =
    let size : ℕ = unsigned_abs u in
    let small : size / 64 < 2 ^ 64 = omega (arith, h, div-add-mod' size 64) in
    let right : (all_digits (shown (size % 64)) ≡ true) × (digits_number (shown (size % 64)) * 64 ≡ size % 64 * 10 ^ length (shown (size % 64))) = right_at (size % 64) (mod_below size 64 (omega arith)) in
    record {
      number = decimal_of (is_negative u) (decimal (size / 64)) (shown (size % 64));
      reads = number_is u (decimal (size / 64)) (shown (size % 64)) (digits_decimal own (size / 64) small) right.0 (decimal_nonempty (size / 64) small);
      size =
          ap (λ (n : ℕ). n * 64) (digits_number-append (decimal (size / 64)) (shown (size % 64)) ∙ ap (λ (n : ℕ). n * 10 ^ length (shown (size % 64)) + digits_number (shown (size % 64))) (digits_value-decimal own (size / 64) small))
          ∙ sum_of size (size / 64) (size % 64) (digits_number (shown (size % 64))) (10 ^ length (shown (size % 64))) (div-add-mod' size 64) right.1;
      below_zero = refl;
    }

signed_again : (u : ℤ) → signed (is_negative u) (unsigned_abs u) ≡ u
signed_again (pos n) = refl
signed_again (negsuc n) = refl

not_past : (n m p : ℕ) → n * 64 ≡ m * p → m ≤ 67108864 → n ≤ 1048576 * p
not_past n m p e h = omega (arith, e, mul-le-mul_right {m = m} {n = 67108864} p h)

-- a decimal that is units / 64 reads as the units
pub exactly_read : (u : ℤ) (text : List ℕ) → IsExactly u text → unsigned_abs u ≤ 67108864 → read_units text ≡ Ok u
exactly_read u text e h =
    let d : Decimal = e.number in
    let place : ℕ = 10 ^ d.places in
    ap (λ (o : Option Decimal). length_or_bad (read_allowed lengths o)) e.reads
    ∙ ap (λ (b : Bool). length_or_bad (if not b && true then Some (truncated 64 d) else None)) (le-ltb (1048576 * place) d.numerator (not_past d.numerator (unsigned_abs u) place e.size h))
    ∙ ap (λ (n : ℕ). Ok (signed d.negative (n / place))) e.size
    ∙ ap (λ (n : ℕ). Ok (signed d.negative n)) (mul-div_cancel (unsigned_abs u) (power_above_zero d.places))
    ∙ ap (λ (b : Bool). Ok (signed b (unsigned_abs u))) e.below_zero
    ∙ ap Ok (signed_again u)

pub exactly_at : (u : ℤ) (text : List ℕ) → unsigned_abs u ≤ 2 ^ 56 → text ≡ printed u → IsExactly u text
exactly_at u text h e = let P : List ℕ → Type 0 = λ t. IsExactly u t in subst P (sym e) (exactly_printed u h)

pub reads_back_at : (u : ℤ) (text : List ℕ) → text ≡ printed u → unsigned_abs u ≤ 67108864 → read_units text ≡ Ok u
reads_back_at u text e h = exactly_read u text (exactly_at u text (omega (arith, h)) e) h

pub printed_length : (text room : List ℕ) (n : ℕ) → n ≤ 28 → length room ≡ 32 → take n room ≡ text → n ≡ length text
printed_length text room n short long e = omega (arith, short, long, length-take n room, ap length e)
