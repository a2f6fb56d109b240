-- Numbers as they are written, read again.
use Rattle.std.proofs.Common.{◌≡◌, ℕ, zero, suc, ℤ, pos, negsuc, ◌+◌, ◌*◌, ◌/◌, ◌%◌, ◌^◌, ◌<◌, ◌≤◌, Bool, true, false, not, ◌&&◌, ◌||◌, ◌==◌, nat_lt, nat_le, unsigned_abs, List, [], ◌∷◌, ◌++◌, length, map, take, drop, replicate, decimal, refl, ap, sym, ◌∙◌, arith, if◌then◌else◌, Some, None, inl, inr, ◌⊎◌}
use Rattle.std.specs.List.{list_all, position_or_len}
use Rattle.std.proofs.lemmas.Bool.{and_parts, and_from, eqb-true, leb-true, leb-false, le-leb, ne_eqb, le-ltb, lt-ltb, true≢false}
use Rattle.std.proofs.lemmas.Nat.{mod_below, div-add-mod', pow-add}
use Rattle.std.proofs.lemmas.Fmt.{digits_decimal, digits_value-decimal, decimal_nonempty}
use Rattle.std.proofs.lemmas.List.{length-append, length-replicate}
use Rattle.std.proofs.Math.Seq.{take-append_seam, drop-append-add}
use Rattle.std.proofs.Math.Nat.{mul-le-mul_right, mul-div_cancel, add-mul, mul_right_comm, mul_assoc, div-div-eq-div-mul}
use Rattle.lunit.specs.declared.number.NumberForm.{NumberForm}
use Rattle.lunit.specs.Decimals.{Decimal, is_digit, all_digits, digits_number, is_point, has_minus, without_sign, whole_part, decimal_part, decimal_of, decimal_or_none, number_of, is_below_zero, signed, truncated, read_allowed, read_number, IsScale}
use Rattle.lunit.specs.Printed.{six_digits, is_zero_digit, without_last_zeros, after_point, is_negative, minus_of}
use Rattle.lunit.proofs.Numerals.{own, digits_number-append, power_above_zero, all_digits_parts}
use Rattle.doc_writer.specs.Numbers.{decimals, number}

-- ---- the six digits of a number of millionths

digit_is : (n : ℕ) → is_digit (48 + n % 10) ≡ true
digit_is n = and_from (nat_le 48 (48 + n % 10)) (nat_le (48 + n % 10) 57) (le-leb 48 (48 + n % 10) (omega arith)) (le-leb (48 + n % 10) 57 (omega (arith, mod_below n 10 (omega arith))))

digits_at : (m : ℕ) (places : List ℕ) → all_digits (map (λ place. 48 + m / place % 10) places) ≡ true
digits_at m [] = refl
digits_at m (place ∷ places) = and_from (is_digit (48 + m / place % 10)) (all_digits (map (λ place. 48 + m / place % 10) places)) (digit_is (m / place)) (digits_at m places)

six_are_digits : (m : ℕ) → all_digits (six_digits m) ≡ true
six_are_digits m = digits_at m (100000 ∷ 10000 ∷ 1000 ∷ 100 ∷ 10 ∷ 1 ∷ [])

one_place : (m p : ℕ) → m / p ≡ m / (p * 10) * 10 + m / p % 10
one_place m p = sym (ap (λ (q : ℕ). q * 10 + m / p % 10) (sym (div-div-eq-div-mul m p 10)) ∙ div-add-mod' (m / p) 10)

six_value : (m : ℕ) → m < 1000000 → digits_number (six_digits m) ≡ m
six_value m h =
    omega (arith, h, div-add-mod' m 1, mod_below m 1 (omega arith), one_place m 1, one_place m 10, one_place m 100, one_place m 1000, one_place m 10000, one_place m 100000, div-add-mod' m 1000000)

-- ---- zeros at the end

zeros_are : (xs : List ℕ) → list_all is_zero_digit xs ≡ true → xs ≡ replicate (length xs) 48
zeros_are [] h = refl
zeros_are (x ∷ xs) h =
    let parts = and_parts (is_zero_digit x) (list_all is_zero_digit xs) h in
    ap (λ (d : ℕ). d ∷ xs) (eqb-true x 48 parts.0) ∙ ap (λ (ds : List ℕ). 48 ∷ ds) (zeros_are xs parts.1)

zeros_value : (k : ℕ) → digits_number (replicate k 48) ≡ 0
zeros_value zero = refl
zeros_value (suc k) = omega (arith, zeros_value k)

-- the digits that are left out are zeros
record Trimmed (xs ds : List ℕ) : Type 0 where
  zeros : ℕ
  all : xs ≡ ds ++ replicate zeros 48

trimmed : (xs : List ℕ) → Trimmed xs (without_last_zeros xs)
trimmed [] = record { zeros = 0; all = refl }
trimmed (x ∷ xs) = by_test (list_all is_zero_digit (x ∷ xs)) refl (trimmed xs) where
  by_test : (b : Bool) → list_all is_zero_digit (x ∷ xs) ≡ b → Trimmed xs (without_last_zeros xs) → Trimmed (x ∷ xs) (if b then [] else x ∷ without_last_zeros xs)
  by_test true e t = record { zeros = length (x ∷ xs); all = zeros_are (x ∷ xs) e }
  by_test false e t = record { zeros = t.zeros; all = ap (λ (ds : List ℕ). x ∷ ds) t.all }

-- these are decimals of so many millionths
pub record Shows (m : ℕ) (ds : List ℕ) : Type 0 where
  pub digits : all_digits ds ≡ true
  pub value : digits_number ds * 1000000 ≡ m * 10 ^ length ds

pub shown : (m : ℕ) → m < 1000000 → Shows m (without_last_zeros (six_digits m))
shown m h =
    let ds : List ℕ = without_last_zeros (six_digits m) in
    let t : Trimmed (six_digits m) ds = trimmed (six_digits m) in
    let z : List ℕ = replicate t.zeros 48 in
    let six : length ds + t.zeros ≡ 6 = omega (arith, ap length t.all, length-append ds z, length-replicate {A = ℕ} t.zeros 48) in
    let value : m ≡ digits_number ds * 10 ^ t.zeros =
    sym (six_value m h) ∙ ap digits_number t.all ∙ digits_number-append ds z
    ∙ ap (λ (k : ℕ). digits_number ds * 10 ^ k + digits_number z) (length-replicate t.zeros 48) ∙ omega (arith, zeros_value t.zeros) in
    record {
      digits = (all_digits_parts ds z (sym (ap all_digits t.all) ∙ six_are_digits m)).0;
      value =
          ap (λ (k : ℕ). digits_number ds * 10 ^ k) (let e : 6 ≡ t.zeros + length ds = omega (arith, six) in e)
          ∙ ap (λ (p : ℕ). digits_number ds * p) (pow-add 10 t.zeros (length ds))
          ∙ sym (mul_assoc (digits_number ds) (10 ^ t.zeros) (10 ^ length ds))
          ∙ ap (λ (k : ℕ). k * 10 ^ length ds) (sym value);
    }

-- ---- texts of digits with a point

point_past : (ds t : List ℕ) → all_digits ds ≡ true → position_or_len is_point (ds ++ t) ≡ length ds + position_or_len is_point t
point_past [] t h = omega arith
point_past (d ∷ ds) t h =
    let parts : (is_digit d ≡ true) × (all_digits ds ≡ true) = and_parts (is_digit d) (all_digits ds) h in
    let bounds : (nat_le 48 d ≡ true) × (nat_le d 57 ≡ true) = and_parts (nat_le 48 d) (nat_le d 57) parts.0 in
    ap (λ (b : Bool). if not b then 1 + position_or_len is_point (ds ++ t) else 0) (ne_eqb d 46 (λ e. omega (arith, e, leb-true 48 d bounds.0)))
    ∙ omega (arith, point_past ds t parts.1)

no_point : (f : List ℕ) → position_or_len is_point (after_point f) ≡ 0
no_point [] = refl
no_point (d ∷ f) = refl

point_off : (f : List ℕ) → drop 1 (after_point f) ≡ f
point_off [] = refl
point_off (d ∷ f) = refl

place_is : (ds f : List ℕ) → all_digits ds ≡ true → position_or_len is_point (ds ++ after_point f) ≡ length ds
place_is ds f h = omega (arith, point_past ds (after_point f) h, no_point f)

whole_is : (ds f : List ℕ) → all_digits ds ≡ true → whole_part (ds ++ after_point f) ≡ ds
whole_is ds f h = ap (λ (n : ℕ). take n (ds ++ after_point f)) (place_is ds f h) ∙ take-append_seam ds (after_point f)

decimals_are : (ds f : List ℕ) → all_digits ds ≡ true → decimal_part (ds ++ after_point f) ≡ f
decimals_are ds f h = ap (λ (n : ℕ). drop (n + 1) (ds ++ after_point f)) (place_is ds f h) ∙ drop-append-add ds (after_point f) 1 ∙ point_off f

unsigned_is : (negative : Bool) (ds f : List ℕ) → all_digits ds ≡ true → all_digits f ≡ true → 0 < length ds → decimal_or_none negative (whole_part (ds ++ after_point f)) (decimal_part (ds ++ after_point f)) ≡ Some (decimal_of negative ds f)
unsigned_is negative ds f h g some =
    (λ i. decimal_or_none negative (whole_is ds f h i) (decimals_are ds f h i))
    ∙ ap (λ (b : Bool). if b then Some (decimal_of negative ds f) else None) (and_from (all_digits ds && all_digits f) (nat_lt 0 (length ds + length f)) (and_from (all_digits ds) (all_digits f) h g) (lt-ltb 0 (length ds + length f) (omega (arith, some))))

no_sign : (ds t : List ℕ) → all_digits ds ≡ true → 0 < length ds → (has_minus (ds ++ t) ≡ false) × (without_sign (ds ++ t) ≡ ds ++ t)
no_sign [] t h some = absurd (omega (arith, some))
no_sign (d ∷ ds) t h some =
    let bounds : (nat_le 48 d ≡ true) × (nat_le d 57 ≡ true) = and_parts (nat_le 48 d) (nat_le d 57) (and_parts (is_digit d) (all_digits ds) h).0 in
    let no_plus : (d == 43) ≡ false = ne_eqb d 43 (λ e. omega (arith, e, leb-true 48 d bounds.0)) in
    let no_minus : (d == 45) ≡ false = ne_eqb d 45 (λ e. omega (arith, e, leb-true 48 d bounds.0)) in
    (no_minus, ap (λ (b : Bool). if b || d == 45 then ds ++ t else d ∷ (ds ++ t)) no_plus ∙ ap (λ (b : Bool). if b then ds ++ t else d ∷ (ds ++ t)) no_minus)

number_is : (u : ℤ) (ds f : List ℕ) → all_digits ds ≡ true → all_digits f ≡ true → 0 < length ds → number_of (minus_of u ++ ds ++ after_point f) ≡ Some (decimal_of (is_negative u) ds f)
number_is (pos n) ds f h g some =
    let plain : (has_minus (ds ++ after_point f) ≡ false) × (without_sign (ds ++ after_point f) ≡ ds ++ after_point f) = no_sign ds (after_point f) h some in
    (λ i. decimal_or_none (plain.0 i) (whole_part (plain.1 i)) (decimal_part (plain.1 i))) ∙ unsigned_is false ds f h g some
number_is (negsuc n) ds f h g some = unsigned_is true ds f h g some

-- ---- the exact number

pub not_zero : (s c : ℕ) → s * c ≡ 1000000 → (0 < s) × (0 < c)
not_zero zero c e = absurd (omega (arith, e))
not_zero (suc s) zero e = absurd (omega (arith, e))
not_zero (suc s) (suc c) e = (omega arith, omega arith)

pub rest_small : (r s c : ℕ) → s * c ≡ 1000000 → r < s → r * c < 1000000
rest_small r s c e h = omega (arith, e, mul-le-mul_right {m = r + 1} {n = s} c (omega (arith, h)), add-mul r 1 c, (not_zero s c e).1)

same_parts : (v r s c p : ℕ) → s * c ≡ 1000000 → v * 1000000 ≡ r * c * p → v * s ≡ r * p
same_parts v r s c p e h =
    let some : 0 < c = (not_zero s c e).1 in
    sym (mul-div_cancel (v * s) some)
    ∙ ap (λ (k : ℕ). k / c) (mul_assoc v s c ∙ ap (λ (k : ℕ). v * k) e ∙ h ∙ mul_right_comm r c p)
    ∙ mul-div_cancel (r * p) some

sum_of : (m w r v p s : ℕ) → w * s + r ≡ m → v * s ≡ r * p → (w * p + v) * s ≡ m * p
sum_of m w r v p s e f = omega (arith, f, ap (λ (k : ℕ). k * p) e, add-mul (w * s) r p, add-mul (w * p) v s, mul_right_comm w s p)

pub number_parts : (scale : ℕ) (z : ℤ) → number scale z ≡ minus_of z ++ decimal (unsigned_abs z / scale) ++ decimals scale (unsigned_abs z % scale)
unfolding number
number_parts scale z = refl

-- the word is the exact number z / scale
pub record IsExact (scale : ℕ) (z : ℤ) (word : List ℕ) : Type 0 where
  pub number : Decimal
  pub reads : number_of word ≡ Some number
  pub size : number.numerator * scale ≡ unsigned_abs z * 10 ^ number.places
  pub below_zero : number.negative ≡ is_negative z

pub exactly : (scale : ℕ) (z : ℤ) → IsScale scale → unsigned_abs z / scale < 2 ^ 64 → IsExact scale z (number scale z)
exactly scale z e small =
    let w : ℕ = unsigned_abs z / scale in
    let r : ℕ = unsigned_abs z % scale in
    let c : ℕ = 1000000 / scale in
    let ds : List ℕ = without_last_zeros (six_digits (r * c)) in
    let shows : Shows (r * c) ds = shown (r * c) (rest_small r scale c e (mod_below (unsigned_abs z) scale (not_zero scale c e).0)) in
    record {
      number = decimal_of (is_negative z) (decimal w) ds;
      reads = ap number_of (number_parts scale z) ∙ number_is z (decimal w) ds (digits_decimal own w small) shows.digits (decimal_nonempty w small);
      size =
          ap (λ (n : ℕ). n * scale) (digits_number-append (decimal w) ds ∙ ap (λ (n : ℕ). n * 10 ^ length ds + digits_number ds) (digits_value-decimal own w small))
          ∙ sum_of (unsigned_abs z) w r (digits_number ds) (10 ^ length ds) scale (div-add-mod' (unsigned_abs z) scale) (same_parts (digits_number ds) r scale c (10 ^ length ds) e shows.value);
      below_zero = refl;
    }

-- ---- what a form reads

signed_again : (z : ℤ) → signed (is_negative z) (unsigned_abs z) ≡ z
signed_again (pos n) = refl
signed_again (negsuc n) = refl

not_past : (n m s p k : ℕ) → 0 < s → n * s ≡ m * p → m ≤ k * s → n ≤ k * p
not_past n m s p k some e h = by_order (cases_le n (k * p)) where
  cases_le : (a b : ℕ) → (a ≤ b) ⊎ (b < a)
  cases_le a b = by_test (nat_le a b) refl where
    by_test : (t : Bool) → nat_le a b ≡ t → (a ≤ b) ⊎ (b < a)
    by_test true g = inl (leb-true a b g)
    by_test false g = inr (leb-false a b g)

  by_order : (n ≤ k * p) ⊎ (k * p < n) → n ≤ k * p
  by_order (inl few) = few
  by_order (inr more) = absurd (omega (arith, some, e, mul-le-mul_right {m = m} {n = k * s} p h, mul-le-mul_right {m = k * p + 1} {n = n} s (omega (arith, more)), add-mul (k * p) 1 s, mul_right_comm k s p))

-- the form has numbers below zero, or the number is not below zero
abbrev pub allows : NumberForm → ℤ → Bool
allows form z = form.below_zero || not (is_negative z)

allowed_by : (below negative some : Bool) → (below || not negative) ≡ true → (below || not (negative && some)) ≡ true
allowed_by true negative some h = refl
allowed_by false false some h = refl
allowed_by false true some h = absurd (true≢false (sym h))

read_exactly : (form : NumberForm) (z : ℤ) (word : List ℕ) → IsExact form.scale z word → 0 < form.scale → unsigned_abs z ≤ form.most * form.scale → allows form z ≡ true → read_number form word ≡ Some z
read_exactly form z word e some few allowed =
    let d : Decimal = e.number in
    let place : ℕ = 10 ^ d.places in
    let within : (form.below_zero || not (is_below_zero d)) ≡ true = allowed_by form.below_zero d.negative (nat_lt 0 d.numerator) (ap (λ (b : Bool). form.below_zero || not b) e.below_zero ∙ allowed) in
    ap (read_allowed form) e.reads
    ∙ ap (λ (b : Bool). if not b && (form.below_zero || not (is_below_zero d)) then Some (truncated form.scale d) else None) (le-ltb (form.most * place) d.numerator (not_past d.numerator (unsigned_abs z) form.scale place form.most some e.size few))
    ∙ ap (λ (b : Bool). if b then Some (truncated form.scale d) else None) within
    ∙ ap (λ (n : ℕ). Some (signed d.negative (n / place))) e.size
    ∙ ap (λ (n : ℕ). Some (signed d.negative n)) (mul-div_cancel (unsigned_abs z) (power_above_zero d.places))
    ∙ ap (λ (b : Bool). Some (signed b (unsigned_abs z))) e.below_zero
    ∙ ap Some (signed_again z)

-- a number in the bounds of a form reads back
pub number_back : (form : NumberForm) (z : ℤ) → IsScale form.scale → unsigned_abs z / form.scale < 2 ^ 64 → unsigned_abs z ≤ form.most * form.scale → allows form z ≡ true → read_number form (number form.scale z) ≡ Some z
number_back form z e small few allowed = read_exactly form z (number form.scale z) (exactly form.scale z e small) (not_zero form.scale (1000000 / form.scale) e).0 few allowed
