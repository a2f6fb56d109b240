-- Digits and the numbers that they write.
use Rattle.std.proofs.Common.{arith, rules, ap, sym, refl, inl, inr, ◌∙◌, ◌≡◌, ℕ, ◌+◌, ◌-◌, ◌*◌, ◌/◌, ◌%◌, ◌^◌, ◌<◌, ◌≤◌, min, Bool, true, false, not, ◌==◌, ◌&&◌, ◌||◌, nat_lt, nat_le, List, [], ◌∷◌, ◌++◌, length, take, drop, get_or, unwrap_or, if◌then◌else◌, cond, Some, None, length-append, length-drop, ◌⊎◌}
use Rattle.std.specs.List.{list_any, position, position_or_len}
use Rattle.std.proofs.lemmas.Bool.{and_parts, cases_eq, cases_lt, eq-eqb, false≢true, ne_eqb, lt-ltb, le-ltb, leb-true}
use Rattle.std.proofs.lemmas.Nat.{pow-add, div-mul-add, mod-mul-add}
use Rattle.std.proofs.lemmas.List.{drop_all, take_more, take_all, take-append-drop, take_min, length-take, length-take-le}
use Rattle.std.proofs.lemmas.List.Sums.{prefix_len-le-length}
use Rattle.std.proofs.lemmas.List.Folds.{list_all-append}
use Rattle.std.proofs.lemmas.Str.Parse.{IsNumeralModel, numerals_by_weight, digits_value_short}
use Rattle.std.proofs.Math.Nat.{one-le-pow, mul-pos, mul_comm, mul_assoc, mul-div-mul_left, mul-div_cancel}
use Rattle.lunit.specs.Decimals.{is_digit, all_digits, digits_number, is_sign, is_point, has_minus, without_sign, whole_part, decimal_part, are_parts, decimal_of, decimal_or_none, number_of}
use Rattle.lunit.specs.Rounded.{rounded_or_none}
use Rattle.lunit.specs.declared.number.Rounded.{Rounded}

pub own : IsNumeralModel (λ ds. all_digits ds ≡ true) digits_number
own = numerals_by_weight _ (search rules) digits_number (search rules)

weights : (d p q a b : ℕ) → d * (p * q) + (a * q + b) ≡ (d * p + a) * q + b
weights d p q a b = grind arith

pub digits_number-append : (xs ys : List ℕ) → digits_number (xs ++ ys) ≡ digits_number xs * 10 ^ length ys + digits_number ys
digits_number-append [] ys = omega arith
digits_number-append (x ∷ xs) ys =
    ap (λ (n : ℕ). (x - 48) * 10 ^ n + digits_number (xs ++ ys)) (length-append xs ys)
    ∙ ap (λ (p : ℕ). (x - 48) * p + digits_number (xs ++ ys)) (pow-add 10 (length xs) (length ys))
    ∙ ap (λ (n : ℕ). (x - 48) * (10 ^ length xs * 10 ^ length ys) + n) (digits_number-append xs ys)
    ∙ weights (x - 48) (10 ^ length xs) (10 ^ length ys) (digits_number xs) (digits_number ys)

pub digits_number_push : (xs : List ℕ) (x : ℕ) → digits_number (xs ++ x ∷ []) ≡ digits_number xs * 10 + (x - 48)
digits_number_push xs x = omega (arith, digits_number-append xs (x ∷ []))

pub below_place : (ds : List ℕ) → all_digits ds ≡ true → digits_number ds < 10 ^ length ds
below_place ds h = digits_value_short own ds (length ds) h (omega arith)

pub power_above_zero : (k : ℕ) → 0 < 10 ^ k
power_above_zero k = one-le-pow k 10 (omega arith)

-- one digit more, under a limit
pub limited_step : (l n m d : ℕ) → m ≡ min l n → min (m * 10 + d) l ≡ min l (n * 10 + d)
limited_step l n m d e = omega arith

pub limited_more : (xs : List ℕ) (i n r : ℕ) → i < length xs → n ≡ min 4294967296 (digits_number (take i xs)) → r ≡ min (n * 10 + (get_or xs i 0 - 48)) 4294967296 → r ≡ min 4294967296 (digits_number (take (i + 1) xs))
limited_more xs i n r h e f =
    f ∙ limited_step 4294967296 (digits_number (take i xs)) n (get_or xs i 0 - 48) e
    ∙ ap (min 4294967296) (sym (ap digits_number (take_more xs i 0 h) ∙ digits_number_push (take i xs) (get_or xs i 0)))

pub all_digits_parts : (xs ys : List ℕ) → all_digits (xs ++ ys) ≡ true → (all_digits xs ≡ true) × (all_digits ys ≡ true)
all_digits_parts xs ys h = and_parts (all_digits xs) (all_digits ys) (sym (list_all-append is_digit xs ys) ∙ h)

-- six places of n / (10^6 * q), where n is t times q and a rest
six_of : (n t q d : ℕ) → d < q → n ≡ t * q + d → n * 1000000 / (1000000 * q) ≡ t
six_of n t q d h e =
    ap (λ (m : ℕ). m / (1000000 * q)) (mul_comm n 1000000)
    ∙ mul-div-mul_left n q (omega arith)
    ∙ ap (λ (m : ℕ). m / q) e
    ∙ div-mul-add t q d h

-- a multiple of 1 / 10^k counted in millionths
few_of : (m j k : ℕ) → j + k ≡ 6 → m * 10 ^ j ≡ m * 1000000 / 10 ^ k
few_of m j k e =
    sym (mul-div_cancel (m * 10 ^ j) (power_above_zero k))
    ∙ ap (λ (n : ℕ). n / 10 ^ k) (mul_assoc m (10 ^ j) (10 ^ k) ∙ ap (λ (n : ℕ). m * n) (sym (pow-add 10 j k) ∙ ap (λ (n : ℕ). 10 ^ n) e))

many_digits : (ds : List ℕ) → all_digits ds ≡ true → 6 < length ds → digits_number (take 6 ds) ≡ digits_number ds * 1000000 / 10 ^ length ds
many_digits ds h long =
    let rest : List ℕ = drop 6 ds in
    let whole : take 6 ds ++ rest ≡ ds = take-append-drop 6 ds in
    let good : all_digits rest ≡ true = (all_digits_parts (take 6 ds) rest (ap all_digits whole ∙ h)).1 in
    let value : digits_number ds ≡ digits_number (take 6 ds) * 10 ^ length rest + digits_number rest = sym (ap digits_number whole) ∙ digits_number-append (take 6 ds) rest in
    let places : length ds ≡ 6 + length rest = omega (arith, length-drop 6 ds) in
    sym (six_of (digits_number ds) (digits_number (take 6 ds)) (10 ^ length rest) (digits_number rest) (below_place rest good) value)
    ∙ ap (λ (p : ℕ). digits_number ds * 1000000 / p) (sym (pow-add 10 6 (length rest)) ∙ ap (λ (n : ℕ). 10 ^ n) (sym places))

-- the first six decimals make the number of millionths
pub six_make : (ds : List ℕ) → all_digits ds ≡ true → digits_number (take 6 ds) * 10 ^ (6 - length (take 6 ds)) ≡ digits_number ds * 1000000 / 10 ^ length ds
six_make ds h = by_length (cases_lt 6 (length ds)) where
  by_length : (6 < length ds) ⊎ (length ds ≤ 6) → digits_number (take 6 ds) * 10 ^ (6 - length (take 6 ds)) ≡ digits_number ds * 1000000 / 10 ^ length ds
  by_length (inl long) =
      ap (λ (n : ℕ). digits_number (take 6 ds) * 10 ^ (6 - n)) (length-take-le 6 ds (omega arith))
      ∙ omega (arith, many_digits ds h long)
  by_length (inr short) =
      ap (λ (xs : List ℕ). digits_number xs * 10 ^ (6 - length xs)) (take_all 6 ds short)
      ∙ few_of (digits_number ds) (6 - length ds) (length ds) (omega arith)

no_more : (d p n : ℕ) → d ≡ 0 → n ≡ d * p + n
no_more d p n e = omega (arith, ap (λ (x : ℕ). x * p) e)

-- digits write a number above 0 where one of them is not 0
pub some_digit : (ds : List ℕ) → all_digits ds ≡ true → list_any (λ d. not (d == 48)) ds ≡ nat_lt 0 (digits_number ds)
some_digit [] h = refl
some_digit (d ∷ ds) h = by_digit (some_digit ds parts.1) (cases_eq d 48) where
  parts : (is_digit d ≡ true) × (all_digits ds ≡ true)
  parts = and_parts (is_digit d) (all_digits ds) h

  by_digit : list_any (λ d. not (d == 48)) ds ≡ nat_lt 0 (digits_number ds) → (d ≡ 48) ⊎ (d ≡ 48 → ⊥) → (not (d == 48) || list_any (λ d. not (d == 48)) ds) ≡ nat_lt 0 ((d - 48) * 10 ^ length ds + digits_number ds)
  by_digit rest (inl zero) =
      ap (λ (b : Bool). not b || list_any (λ d. not (d == 48)) ds) (eq-eqb d 48 zero)
      ∙ rest
      ∙ ap (nat_lt 0) (no_more (d - 48) (10 ^ length ds) (digits_number ds) (omega (arith, zero)))
  by_digit rest (inr some) =
      ap (λ (b : Bool). not b || list_any (λ d. not (d == 48)) ds) (ne_eqb d 48 some)
      ∙ sym (lt-ltb 0 ((d - 48) * 10 ^ length ds + digits_number ds) (omega (arith, mul-pos {m = d - 48} {n = 10 ^ length ds} (omega (arith, some, leb-true 48 d (and_parts (nat_le 48 d) (nat_le d 57) parts.0).0)) (power_above_zero (length ds)))))

-- the place that is found, or the length
pub found_or_length : (p : ℕ → Bool) (xs : List ℕ) → unwrap_or (position p xs) (length xs) ≡ position_or_len p xs
found_or_length p xs = by_place (cases_lt place (length xs)) where
  place : ℕ
  place = position_or_len p xs

  by_place : (place < length xs) ⊎ (length xs ≤ place) → unwrap_or (cond (nat_lt place (length xs)) (Some place) None) (length xs) ≡ place
  by_place (inl found) = ap (λ (b : Bool). unwrap_or (cond b (Some place) None) (length xs)) (lt-ltb place (length xs) found)
  by_place (inr none) = ap (λ (b : Bool). unwrap_or (cond b (Some place) None) (length xs)) (le-ltb place (length xs) none) ∙ omega (arith, none, prefix_len-le-length (λ (x : ℕ). not (p x)) xs)

front : (ds : List ℕ) (k : ℕ) → k ≡ min (length ds) 6 → take k ds ≡ take 6 ds
front ds k e = ap (λ (n : ℕ). take n ds) (let f : k ≡ min 6 (length ds) = omega (arith, e) in f) ∙ take_min 6 ds

front_below : (ds : List ℕ) → all_digits ds ≡ true → digits_number (take 6 ds) < 1000000
front_below ds h = digits_value_short own (take 6 ds) 6 (all_digits_parts (take 6 ds) (drop 6 ds) (ap all_digits (take-append-drop 6 ds) ∙ h)).0 (omega (arith, length-take 6 ds))

pub millionths_are : (ds : List ℕ) (k m p : ℕ) → all_digits ds ≡ true → k ≡ min (length ds) 6 → m ≡ min 4294967296 (digits_number (take k ds)) → p ≡ 10 ^ (6 - length (take k ds)) → m * p ≡ digits_number ds * 1000000 / 10 ^ length ds
millionths_are ds k m p h e f g =
    let same : take k ds ≡ take 6 ds = front ds k e in
    let value : m ≡ digits_number (take 6 ds) = f ∙ omega (arith, ap digits_number same, front_below ds h) in
    let power : p ≡ 10 ^ (6 - length (take 6 ds)) = g ∙ ap (λ (xs : List ℕ). 10 ^ (6 - length xs)) same in
    ap (λ (n : ℕ). n * p) value ∙ ap (λ (n : ℕ). digits_number (take 6 ds) * n) power ∙ six_make ds h

-- whole number and rest of the number that the parts write
pub parts_whole : (w d : List ℕ) → all_digits d ≡ true → digits_number (w ++ d) / 10 ^ length d ≡ digits_number w
parts_whole w d h = ap (λ (n : ℕ). n / 10 ^ length d) (digits_number-append w d) ∙ div-mul-add (digits_number w) (10 ^ length d) (digits_number d) (below_place d h)

pub parts_rest : (w d : List ℕ) → all_digits d ≡ true → digits_number (w ++ d) % 10 ^ length d ≡ digits_number d
parts_rest w d h = ap (λ (n : ℕ). n % 10 ^ length d) (digits_number-append w d) ∙ mod-mul-add (digits_number w) (10 ^ length d) (digits_number d) (below_place d h)

pub rounded_parts : (negative : Bool) (w d : List ℕ) → are_parts w d ≡ true →
    rounded_or_none (decimal_or_none negative w d) ≡ Some (record { negative = negative; whole = min 4294967296 (digits_number w); millionths = digits_number d * 1000000 / 10 ^ length d; has_rest = nat_lt 0 (digits_number d) })
rounded_parts negative w d h =
    ap (λ (b : Bool). rounded_or_none (if b then Some (decimal_of negative w d) else None)) h
    ∙ ap (λ (n : ℕ). Some (rounded_as negative n (digits_number (w ++ d) % 10 ^ length d) (10 ^ length d))) (parts_whole w d good)
    ∙ ap (λ (n : ℕ). Some (rounded_as negative (digits_number w) n (10 ^ length d))) (parts_rest w d good)
  where
    good : all_digits d ≡ true
    good = (and_parts (all_digits w) (all_digits d) (and_parts (all_digits w && all_digits d) (nat_lt 0 (length w + length d)) h).0).1

    rounded_as : Bool → ℕ → ℕ → ℕ → Rounded
    rounded_as negative whole rest place = record { negative = negative; whole = min 4294967296 whole; millionths = rest * 1000000 / place; has_rest = nat_lt 0 rest }

-- ---- digits alone

digit_from : (d : ℕ) → is_digit d ≡ true → 48 ≤ d
digit_from d h = leb-true 48 d (and_parts (nat_le 48 d) (nat_le d 57) h).0

no_point : (ds : List ℕ) → all_digits ds ≡ true → position_or_len is_point ds ≡ length ds
no_point [] h = refl
no_point (d ∷ ds) h =
    let parts = and_parts (is_digit d) (all_digits ds) h in
    let other : is_point d ≡ false = ne_eqb d 46 (λ e. omega (arith, e, digit_from d parts.0)) in
    let rest : 1 + position_or_len is_point ds ≡ length (d ∷ ds) = omega (arith, no_point ds parts.1) in
    ap (λ (b : Bool). cond (not b) (1 + position_or_len is_point ds) 0) other ∙ rest

-- they have no sign, and no decimals
parts_alone : (d : ℕ) (ds : List ℕ) → all_digits (d ∷ ds) ≡ true → number_of (d ∷ ds) ≡ decimal_or_none false (d ∷ ds) []
parts_alone d ds h =
    let from : 48 ≤ d = digit_from d (and_parts (is_digit d) (all_digits ds) h).0 in
    let minus : has_minus (d ∷ ds) ≡ false = ne_eqb d 45 (λ e. omega (arith, e, from)) in
    let sign : is_sign d ≡ false = ap (λ (b : Bool). b || (d == 45)) (ne_eqb d 43 (λ e. omega (arith, e, from))) ∙ minus in
    let point : position_or_len is_point (d ∷ ds) ≡ length (d ∷ ds) = no_point (d ∷ ds) h in
    let whole : whole_part (d ∷ ds) ≡ d ∷ ds = take_all (position_or_len is_point (d ∷ ds)) (d ∷ ds) (omega (arith, point)) in
    let decimals : decimal_part (d ∷ ds) ≡ [] = drop_all (position_or_len is_point (d ∷ ds) + 1) (d ∷ ds) (omega (arith, point)) in
    ap (λ (b : Bool). decimal_or_none b (whole_part (without_sign (d ∷ ds))) (decimal_part (without_sign (d ∷ ds)))) minus
    ∙ ap (λ (b : Bool). decimal_or_none false (whole_part (if b then ds else d ∷ ds)) (decimal_part (if b then ds else d ∷ ds))) sign
    ∙ ap (λ (w : List ℕ). decimal_or_none false w (decimal_part (d ∷ ds))) whole
    ∙ ap (λ (r : List ℕ). decimal_or_none false (d ∷ ds) r) decimals

are_alone : (d : ℕ) (ds : List ℕ) → all_digits (d ∷ ds) ≡ true → are_parts (d ∷ ds) [] ≡ true
are_alone d ds h =
    ap (λ (b : Bool). (b && true) && nat_lt 0 (length (d ∷ ds) + 0)) h
    ∙ lt-ltb 0 (length (d ∷ ds) + 0) (omega arith)

abbrev rounded_alone : ℕ → Rounded
rounded_alone n = record { negative = false; whole = n; millionths = 0; has_rest = false }

-- the number that digits alone are
pub whole_alone : (text : List ℕ) (whole : ℕ) → (nat_lt 0 (length text) && all_digits text) ≡ true → whole ≡ min 4294967296 (digits_number text) → Some (rounded_alone whole) ≡ rounded_or_none (number_of text)
whole_alone [] whole h e = absurd (false≢true h)
whole_alone (d ∷ ds) whole h e =
    let digits : all_digits (d ∷ ds) ≡ true = (and_parts (nat_lt 0 (length (d ∷ ds))) (all_digits (d ∷ ds)) h).1 in
    ap (λ (n : ℕ). Some (rounded_alone n)) e
    ∙ sym (ap rounded_or_none (parts_alone d ds digits) ∙ rounded_parts false (d ∷ ds) [] (are_alone d ds digits))
