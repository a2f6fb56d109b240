-- What is read of a rounded decimal is what is read of the exact one.
use Rattle.std.proofs.Common.{arith, ap, sym, refl, inl, inr, ◌∙◌, ◌≡◌, ℕ, ◌+◌, ◌*◌, ◌/◌, ◌%◌, ◌^◌, ◌<◌, ◌≤◌, min, Bool, true, false, not, ◌==◌, ◌&&◌, ◌||◌, nat_lt, Option, Some, None, ◌⊎◌, if◌then◌else◌, unsigned_abs, zero-mul, add_comm, zero, suc, unwrap_or}
use Rattle.std.proofs.lemmas.Bool.{cases_eq, cases_lt, cases_order, eq-eqb, ne_eqb, lt-ltb, le-ltb, ltb-false, not-true, and_parts}
use Rattle.std.proofs.lemmas.Nat.{mod_below, div_below, div-add-mod'}
use Rattle.std.proofs.Math.Nat.{mul_comm, mul_assoc, add-mul, mul-div-mul_right, div-div-eq-div-mul, add-mul-div_right, div-le_of_le-mul, mul-le-mul_right, mul-le-mul_left, mul_right_comm}
use Rattle.std.proofs.lemmas.Option.{none-some}
use Rattle.lunit.specs.Decimals.{Decimal, is_allowed, passes, is_below_zero, signed, truncated, read_allowed, IsScale}
use Rattle.lunit.specs.Rounded.{rounded, rounded_or_none, allows, size_of}
use Rattle.lunit.specs.declared.number.Rounded.{Rounded}
use Rattle.lunit.specs.declared.number.NumberForm.{NumberForm}
use Rattle.lunit.proofs.Numerals.{power_above_zero}

rest_test : (m r : ℕ) → nat_lt 0 r ≡ nat_lt m (m + r)
rest_test m r = by_rest (cases_lt 0 r) where
  by_rest : (0 < r) ⊎ (r ≤ 0) → nat_lt 0 r ≡ nat_lt m (m + r)
  by_rest (inl some) = lt-ltb 0 r some ∙ sym (lt-ltb m (m + r) (omega arith))
  by_rest (inr none) = le-ltb 0 r none ∙ sym (le-ltb m (m + r) (omega arith))

-- whether q whole and a rest r of p parts are within a limit of m
fits_test : (m w q r p n : ℕ) → w ≡ min 4294967296 q → m < 4294967296 → r < p → n ≡ q * p + r → (nat_lt w m || (w == m && not (nat_lt 0 r))) ≡ not (nat_lt (m * p) n)
fits_test m w q r p n we small part e = by_order (cases_order q m) where
  by_order : (q ≡ m) ⊎ ((q < m) ⊎ (m < q)) → (nat_lt w m || (w == m && not (nat_lt 0 r))) ≡ not (nat_lt (m * p) n)
  by_order (inl same) =
      ap (λ (b : Bool). b || (w == m && not (nat_lt 0 r))) (le-ltb w m (omega (arith, same, we, small)))
      ∙ ap (λ (b : Bool). b && not (nat_lt 0 r)) (eq-eqb w m (omega (arith, same, we, small)))
      ∙ ap not (rest_test (m * p) r)
      ∙ ap (λ (k : ℕ). not (nat_lt (m * p) k)) (sym (e ∙ ap (λ (k : ℕ). k * p + r) same))
  by_order (inr (inl less)) =
      ap (λ (b : Bool). b || (w == m && not (nat_lt 0 r))) (lt-ltb w m (omega (arith, less, we, small)))
      ∙ ap not (sym (le-ltb (m * p) n (omega (arith, e, part, mul-le-mul_right {m = q + 1} {n = m} p (omega (arith, less)), add-mul q 1 p))))
  by_order (inr (inr more)) =
      ap (λ (b : Bool). b || (w == m && not (nat_lt 0 r))) (le-ltb w m (omega (arith, more, we, small)))
      ∙ ap (λ (b : Bool). b && not (nat_lt 0 r)) (ne_eqb w m (λ same. omega (arith, same, more, we, small)))
      ∙ ap not (sym (lt-ltb (m * p) n (omega (arith, e, part, mul-le-mul_right {m = m + 1} {n = q} p (omega (arith, more)), add-mul m 1 p))))

zero_test : (w q r p n : ℕ) → w ≡ min 4294967296 q → r < p → n ≡ q * p + r → (w == 0 && not (nat_lt 0 r)) ≡ not (nat_lt 0 n)
zero_test w q r p n we part e =
    sym (ap (λ (b : Bool). b || (w == 0 && not (nat_lt 0 r))) (le-ltb w 0 (omega arith)))
    ∙ fits_test 0 w q r p n we (omega arith) part e
    ∙ ap (λ (k : ℕ). not (nat_lt k n)) (zero-mul p)

sign_test : (below negative y z : Bool) → y ≡ not z → (below || (not negative || y)) ≡ (below || not (negative && z))
sign_test true negative y z e = refl
sign_test false true y z e = e
sign_test false false y z e = refl

-- the rounded number is allowed exactly where the exact one is
allowed_is : (form : NumberForm) (d : Decimal) → form.most < 4294967296 → allows form (rounded d) ≡ is_allowed form d
allowed_is form d small =
    ap (λ (b : Bool). b && (form.below_zero || (not d.negative || zero))) (fits_test form.most whole (d.numerator / place) rest place d.numerator refl small part exact)
    ∙ ap (λ (b : Bool). not (nat_lt (form.most * place) d.numerator) && b) (sign_test form.below_zero d.negative zero (nat_lt 0 d.numerator) (zero_test whole (d.numerator / place) rest place d.numerator refl part exact))
  where
    place : ℕ
    place = 10 ^ d.places

    rest : ℕ
    rest = d.numerator % place

    whole : ℕ
    whole = min 4294967296 (d.numerator / place)

    zero : Bool
    zero = whole == 0 && not (nat_lt 0 rest)

    part : rest < place
    part = mod_below d.numerator place (power_above_zero d.places)

    exact : d.numerator ≡ d.numerator / place * place + rest
    exact = sym (div-add-mod' d.numerator place)

swap : (q p r s : ℕ) → (q * p + r) * s ≡ r * s + q * s * p
swap q p r s = grind arith

scale_has : (s c : ℕ) → s * c ≡ 1000000 → 0 < c
scale_has s c e = by_part (cases_eq c 0) where
  by_part : (c ≡ 0) ⊎ (c ≡ 0 → ⊥) → 0 < c
  by_part (inl none) = omega (arith, e, ap (λ (k : ℕ). s * k) none)
  by_part (inr some) = omega (arith, some)

rest_parts : (r s p c : ℕ) → s * c ≡ 1000000 → r * 1000000 / p / c ≡ r * s / p
rest_parts r s p c e =
    div-div-eq-div-mul (r * 1000000) p c
    ∙ ap (λ (k : ℕ). k / (p * c)) (ap (λ (k : ℕ). r * k) (sym e) ∙ sym (mul_assoc r s c))
    ∙ mul-div-mul_right (r * s) p (scale_has s c e)

pub parts_are : (n s p c : ℕ) → s * c ≡ 1000000 → 0 < p → n / p * s + n % p * 1000000 / p / c ≡ n * s / p
parts_are n s p c e some =
    ap (λ (k : ℕ). n / p * s + k) (rest_parts (n % p) s p c e)
    ∙ sym (ap (λ (k : ℕ). k * s / p) (sym (div-add-mod' n p)) ∙ ap (λ (k : ℕ). k / p) (swap (n / p) p (n % p) s) ∙ add-mul-div_right (n % p * s) (n / p * s) some ∙ add_comm (n % p * s / p) (n / p * s))

within : (form : NumberForm) (d : Decimal) → is_allowed form d ≡ true → d.numerator ≤ form.most * 10 ^ d.places
within form d h = ltb-false (form.most * 10 ^ d.places) d.numerator (not-true (passes form.most d) (and_parts (not (passes form.most d)) (form.below_zero || not (is_below_zero d)) h).0)

whole_of : (form : NumberForm) (d : Decimal) → is_allowed form d ≡ true → d.numerator / 10 ^ d.places ≤ form.most
whole_of form d h = div-le_of_le-mul (10 ^ d.places) (omega (arith, within form d h, mul_comm form.most (10 ^ d.places)))

size_is : (form : NumberForm) (d : Decimal) → form.most < 4294967296 → IsScale form.scale → is_allowed form d ≡ true → size_of form (rounded d) ≡ d.numerator * form.scale / 10 ^ d.places
size_is form d small scale h =
    ap (λ (w : ℕ). w * form.scale + d.numerator % 10 ^ d.places * 1000000 / 10 ^ d.places / (1000000 / form.scale)) (let e : min 4294967296 (d.numerator / 10 ^ d.places) ≡ d.numerator / 10 ^ d.places = omega (arith, small, whole_of form d h) in e)
    ∙ parts_are d.numerator form.scale (10 ^ d.places) (1000000 / form.scale) scale (power_above_zero d.places)

scaled_within : (n s p m : ℕ) → n ≤ m * p → n * s / p ≤ m * s
scaled_within n s p m h = div-le_of_le-mul p (omega (arith, mul-le-mul_right {m = n} {n = m * p} s h, mul_right_comm m p s, mul_comm (m * s) p))

rest_within : (r p : ℕ) → r < p → r * 1000000 / p < 1000000
rest_within r p h = div_below (r * 1000000) p 1000000 (omega arith) (omega (arith, h))

some_same : (r s : Rounded) → Some r ≡ Some s → r ≡ s
some_same r s e = ap (λ (o : Option Rounded). unwrap_or o r) e

pub none_read : (form : NumberForm) (o : Option Decimal) → None ≡ rounded_or_none o → None ≡ read_allowed form o
none_read form None e = refl
none_read form (Some d) e = absurd (none-some (rounded d) e)

pub refused_read : (form : NumberForm) (o : Option Decimal) (r : Rounded) → Some r ≡ rounded_or_none o → form.most < 4294967296 → allows form r ≡ false → None ≡ read_allowed form o
refused_read form None r e small refused = absurd (none-some r (sym e))
refused_read form (Some d) r e small refused =
    sym (ap (λ (b : Bool). if b then Some (truncated form.scale d) else None) (sym (allowed_is form d small) ∙ ap (allows form) (sym (some_same r (rounded d) e)) ∙ refused))

pub given_read : (form : NumberForm) (o : Option Decimal) (r : Rounded) → Some r ≡ rounded_or_none o → form.most < 4294967296 → allows form r ≡ true → IsScale form.scale → Some (signed r.negative (size_of form r)) ≡ read_allowed form o
given_read form None r e small allows_it scale = absurd (none-some r (sym e))
given_read form (Some d) r e small allows_it scale =
    let same : r ≡ rounded d = some_same r (rounded d) e in
    let allowed : is_allowed form d ≡ true = sym (allowed_is form d small) ∙ ap (allows form) (sym same) ∙ allows_it in
    ap (λ (s : Rounded). Some (signed s.negative (size_of form s))) same
    ∙ ap (λ (n : ℕ). Some (signed d.negative n)) (size_is form d small scale allowed)
    ∙ sym (ap (λ (b : Bool). if b then Some (truncated form.scale d) else None) allowed)

pub whole_read : (form : NumberForm) (o : Option Decimal) (r : Rounded) → Some r ≡ rounded_or_none o → form.most < 4294967296 → allows form r ≡ true → r.whole ≤ form.most
whole_read form None r e small allows_it = absurd (none-some r (sym e))
whole_read form (Some d) r e small allows_it =
    let same : r ≡ rounded d = some_same r (rounded d) e in
    let allowed : is_allowed form d ≡ true = sym (allowed_is form d small) ∙ ap (allows form) (sym same) ∙ allows_it in
    let whole : r.whole ≡ min 4294967296 (d.numerator / 10 ^ d.places) = ap (λ (s : Rounded). s.whole) same in
    omega (arith, whole, whole_of form d allowed)

pub millionths_read : (o : Option Decimal) (r : Rounded) → Some r ≡ rounded_or_none o → r.millionths < 1000000
millionths_read None r e = absurd (none-some r (sym e))
millionths_read (Some d) r e =
    let same : r.millionths ≡ (rounded d).millionths = ap (λ (s : Rounded). s.millionths) (some_same r (rounded d) e) in
    omega (arith, same, rest_within (d.numerator % 10 ^ d.places) (10 ^ d.places) (mod_below d.numerator (10 ^ d.places) (power_above_zero d.places)))

pub size_read : (form : NumberForm) (o : Option Decimal) (r : Rounded) → Some r ≡ rounded_or_none o → form.most < 4294967296 → allows form r ≡ true → IsScale form.scale → size_of form r ≤ form.most * form.scale
size_read form None r e small allows_it scale = absurd (none-some r (sym e))
size_read form (Some d) r e small allows_it scale =
    let same : r ≡ rounded d = some_same r (rounded d) e in
    let allowed : is_allowed form d ≡ true = sym (allowed_is form d small) ∙ ap (allows form) (sym same) ∙ allows_it in
    let size : size_of form r ≡ d.numerator * form.scale / 10 ^ d.places = ap (size_of form) same ∙ size_is form d small scale allowed in
    omega (arith, size, scaled_within d.numerator form.scale (10 ^ d.places) form.most (within form d allowed))

-- a scale is at most a million
pub scale_within : (s : ℕ) → IsScale s → s ≤ 1000000
scale_within s e = omega (arith, e, scale_has s (1000000 / s) e, mul-le-mul_left {m = 1} {n = 1000000 / s} s (scale_has s (1000000 / s) e))

pub size_signed : (negative : Bool) (n : ℕ) → unsigned_abs (signed negative n) ≡ n
size_signed false n = refl
size_signed true zero = refl
size_signed true (suc n) = refl

-- what a form reads fits 64 bits with its sign
pub size_fits : (n m s : ℕ) → n ≤ m * s → m < 4294967296 → IsScale s → n < 9223372036854775808
size_fits n m s h small scale = omega (arith, h, mul-le-mul_left {m = s} {n = 1000000} m (scale_within s scale), small)

pub ruleset reading = (none_read, refused_read, whole_read, millionths_read)
