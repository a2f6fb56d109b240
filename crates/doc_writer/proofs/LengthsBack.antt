-- Numbers with their units as they are written, read again.
use Rattle.std.proofs.Common.{◌≡◌, ℕ, ℤ, pos, negsuc, ◌+◌, ◌-◌, ◌*◌, ◌/◌, ◌%◌, ◌^◌, ◌<◌, ◌≤◌, Bool, true, false, not, ◌||◌, nat_le, unsigned_abs, List, [], ◌∷◌, ◌++◌, length, take, drop, decimal, is_some, refl, ap, sym, subst, ◌∙◌, arith, if◌then◌else◌, Option, Some, None, codes}
use Rattle.std.specs.List.{list_all, list_any}
use Rattle.std.specs.Option.{option_map}
use Rattle.std.specs.Str.{bytes_eq}
use Rattle.std.proofs.lemmas.Bool.{and_parts, and_from, leb-true, ne_eqb, true≢false, agree_below_at, false_from_ne_true}
use Rattle.std.proofs.lemmas.Nat.{mod_below}
use Rattle.std.proofs.lemmas.Fmt.{digits_decimal, decimal_nonempty}
use Rattle.std.proofs.lemmas.List.{length-append, append-nil, append_assoc}
use Rattle.std.proofs.lemmas.List.Folds.{list_all-append}
use Rattle.std.proofs.lemmas.Slice.Eq.{bytes_eq-Decides}
use Rattle.std.proofs.Math.Nat.{div-le_self}
use Rattle.std.proofs.Math.Seq.{take-append_seam, drop-append-add}
use Rattle.lunit.specs.Decimals.{is_digit, all_digits, is_point, read_number, IsScale}
use Rattle.lunit.specs.Forms.{percentages, factors, integers}
use Rattle.lunit.specs.Printed.{six_digits, without_last_zeros, after_point, is_negative, minus_of}
use Rattle.lunit.proofs.Numerals.{own}
use Rattle.style_types.specs.declared.unit.Unit.{Unit}
use Rattle.style_types.specs.declared.unit.Unit.TheVariants as unit
use Rattle.track_text.specs.Words.{Word}
use Rattle.track_text.specs.Values.{ends_in, before, px_form, relative_form, in_px, in_em, in_rem, zero_of, em_or_zero, relative_of, other_length, length_in, percentage_of, factor_of, flex_of, integer_of}
use Rattle.doc_writer.specs.Numbers.{decimals, number, integer, px_number, factor, percentage, length_word}
use Rattle.doc_writer.proofs.NumbersBack.{number_parts, number_back, Shows, shown, rest_small, not_zero}
use Rattle.doc_writer.proofs.WordsBack.{is_plain}

-- ---- the ends of words

pub ends_behind : (unit front end : Word) → length unit ≤ length end → ends_in unit (front ++ end) ≡ ends_in unit end
ends_behind unit front end h =
    let n : length (front ++ end) - length unit ≡ length front + (length end - length unit) = omega (arith, length-append front end, h) in
    ap (λ (k : ℕ). bytes_eq (drop k (front ++ end)) unit) n
    ∙ ap (λ (bytes : Word). bytes_eq bytes unit) (drop-append-add front end (length end - length unit))

pub before_unit : (unit word : Word) → before unit (word ++ unit) ≡ word
before_unit unit word =
    let n : length (word ++ unit) - length unit ≡ length word = omega (arith, length-append word unit) in
    ap (λ (k : ℕ). take k (word ++ unit)) n ∙ take-append_seam word unit

abbrev head_or : ℕ → List ℕ → ℕ
head_or byte [] = byte
head_or byte (first ∷ bytes) = first

pub head_not : (a b : ℕ) (xs ys : Word) → (a ≡ b → ⊥) → bytes_eq (a ∷ xs) (b ∷ ys) ≡ false
head_not a b xs ys n = false_from_ne_true (bytes_eq (a ∷ xs) (b ∷ ys)) (λ e. n (ap (head_or 0) ((bytes_eq-Decides (a ∷ xs) (b ∷ ys)).0 e)))

-- a word that gives an answer is none of those that give none
pub no_such : {A : Type 0} (read : Word → Option A) (word due : Word) (x : A) → read word ≡ Some x → read due ≡ None → bytes_eq word due ≡ false
no_such {A} read word due x s n = false_from_ne_true (bytes_eq word due) (λ e. true≢false (sym (ap is_some s) ∙ ap (λ (w : Word). is_some (read w)) ((bytes_eq-Decides word due).0 e) ∙ ap is_some n))

-- ---- the bytes of a number

pub digit_below : (byte : ℕ) → is_digit byte ≡ true → byte < 58
digit_below byte h = omega (arith, leb-true byte 57 (and_parts (nat_le 48 byte) (nat_le byte 57) h).1)

abbrev plain_digit : ℕ → Bool
plain_digit byte = not (is_digit byte) || is_plain byte

digits_plain : (bytes : List ℕ) → all_digits bytes ≡ true → list_all is_plain bytes ≡ true
digits_plain [] h = refl
digits_plain (byte ∷ bytes) h =
    let parts = and_parts (is_digit byte) (all_digits bytes) h in
    and_from (is_plain byte) (list_all is_plain bytes)
    (ap (λ (b : Bool). not b || is_plain byte) (sym parts.0) ∙ agree_below_at plain_digit (λ _. true) 58 byte refl (digit_below byte parts.0)) (digits_plain bytes parts.1)

minus_plain : (z : ℤ) → list_all is_plain (minus_of z) ≡ true
minus_plain (pos n) = refl
minus_plain (negsuc n) = refl

point_plain : (f : List ℕ) → all_digits f ≡ true → list_all is_plain (after_point f) ≡ true
point_plain [] h = refl
point_plain (d ∷ f) h = digits_plain (d ∷ f) h

both_plain : (xs ys : List ℕ) → list_all is_plain xs ≡ true → list_all is_plain ys ≡ true → list_all is_plain (xs ++ ys) ≡ true
both_plain xs ys a b = list_all-append is_plain xs ys ∙ and_from (list_all is_plain xs) (list_all is_plain ys) a b

-- a word that ends with a digit
pub record IsNumeral (word : Word) : Type 0 where
  pub front : List ℕ
  pub digit : ℕ
  pub is : word ≡ front ++ digit ∷ []
  pub ok : is_digit digit ≡ true
  pub plain : list_all is_plain word ≡ true

abbrev Ends : List ℕ → Type 0
Ends word = (front : List ℕ) × ((digit : ℕ) × ((word ≡ front ++ digit ∷ []) × (is_digit digit ≡ true)))

ends_digits : (front ds : List ℕ) → all_digits ds ≡ true → 0 < length ds → Ends (front ++ ds)
ends_digits front [] h s = absurd (omega (arith, s))
ends_digits front (d ∷ []) h s = (front, (d, (refl, (and_parts (is_digit d) true h).0)))
ends_digits front (d ∷ e ∷ ds) h s = subst Ends (append_assoc front (d ∷ []) (e ∷ ds)) (ends_digits (front ++ d ∷ []) (e ∷ ds) (and_parts (is_digit d) (all_digits (e ∷ ds)) h).1 (omega arith))

ends_point : (front ds f : List ℕ) → all_digits ds ≡ true → 0 < length ds → all_digits f ≡ true → Ends ((front ++ ds) ++ after_point f)
ends_point front ds [] h s g = subst Ends (sym (append-nil (front ++ ds))) (ends_digits front ds h s)
ends_point front ds (d ∷ f) h s g = subst Ends (append_assoc (front ++ ds) (46 ∷ []) (d ∷ f)) (ends_digits ((front ++ ds) ++ 46 ∷ []) (d ∷ f) g (omega arith))

pub numeral : (scale : ℕ) (z : ℤ) → IsScale scale → unsigned_abs z / scale < 2 ^ 64 → IsNumeral (number scale z)
numeral scale z e small =
    let w : ℕ = unsigned_abs z / scale in
    let r : ℕ = unsigned_abs z % scale in
    let c : ℕ = 1000000 / scale in
    let ds : List ℕ = without_last_zeros (six_digits (r * c)) in
    let shows : Shows (r * c) ds = shown (r * c) (rest_small r scale c e (mod_below (unsigned_abs z) scale (not_zero scale c e).0)) in
    let ends : Ends (number scale z) = subst Ends (sym (number_parts scale z)) (ends_point (minus_of z) (decimal w) ds (digits_decimal own w small) (decimal_nonempty w small) shows.digits) in
    record {
      front = ends.0;
      digit = ends.1.0;
      is = ends.1.1.0;
      ok = ends.1.1.1;
      plain = ap (list_all is_plain) (number_parts scale z) ∙ both_plain (minus_of z ++ decimal w) (after_point ds) (both_plain (minus_of z) (decimal w) (minus_plain z) (digits_plain (decimal w) (digits_decimal own w small))) (point_plain ds shows.digits);
    }

-- ---- lengths

small_at : (n k m : ℕ) → n ≤ m → m < 2 ^ 64 → n / k < 2 ^ 64
small_at n k m h g = omega (arith, h, g, div-le_self n k)

-- the length is one that a text tells: px in the bounds, or millionths of a font size where lengths may be relative
abbrev pub IsLength : Bool → Bool → ℤ → Unit → Type 0
IsLength relative below px unit.Px = (unsigned_abs px ≤ 67108864) × ((below || not (is_negative px)) ≡ true)
IsLength relative below px (unit.Em m) = (relative ≡ true) × ((px ≡ pos 0) × ((unsigned_abs m ≤ 10000000000) × ((below || not (is_negative m)) ≡ true)))
IsLength relative below px (unit.Rem m) = (relative ≡ true) × ((px ≡ pos 0) × ((unsigned_abs m ≤ 10000000000) × ((below || not (is_negative m)) ≡ true)))

px_numeral : (px : ℤ) → unsigned_abs px ≤ 67108864 → IsNumeral (number 64 px)
px_numeral px h = numeral 64 px refl (small_at (unsigned_abs px) 64 67108864 h (omega arith))

millionths_numeral : (m : ℤ) → unsigned_abs m ≤ 10000000000 → IsNumeral (number 1000000 m)
millionths_numeral m h = numeral 1000000 m refl (small_at (unsigned_abs m) 1000000 10000000000 h (omega arith))

-- the last digit before a unit
with_unit : (word : Word) (unit : Word) (n : IsNumeral word) → word ++ unit ≡ n.front ++ (n.digit ∷ unit)
with_unit word unit n = ap (λ (w : Word). w ++ unit) n.is ∙ append_assoc n.front (n.digit ∷ []) unit

not_rem : (word : Word) → IsNumeral word → ends_in (codes "rem") (word ++ codes "em") ≡ false
not_rem word n =
    ap (ends_in (codes "rem")) (with_unit word (codes "em") n)
    ∙ ends_behind (codes "rem") n.front (n.digit ∷ codes "em") (omega arith)
    ∙ head_not n.digit 114 (codes "em") (codes "em") (λ e. omega (arith, e, digit_below n.digit n.ok))

pub length_back : (relative below : Bool) (px : ℤ) (u : Unit) → IsLength relative below px u → length_in relative below (length_word px u) ≡ Some (px, u)
length_back relative below px unit.Px h =
    let w : Word = number 64 px in
    ap (λ (b : Bool). if b then option_map in_px (read_number (px_form below) (before (codes "px") (w ++ codes "px"))) else other_length relative below (w ++ codes "px")) (ends_behind (codes "px") w (codes "px") (omega arith))
    ∙ ap (λ (v : Word). option_map in_px (read_number (px_form below) v)) (before_unit (codes "px") w)
    ∙ ap (option_map in_px) (number_back (px_form below) px refl (small_at (unsigned_abs px) 64 67108864 h.0 (omega arith)) h.0 h.1)
length_back relative below px (unit.Em m) h =
    let w : Word = number 1000000 m in
    let v : Word = w ++ codes "em" in
    let n : IsNumeral w = millionths_numeral m h.1.1.0 in
    ap (λ (b : Bool). if b then option_map in_px (read_number (px_form below) (before (codes "px") v)) else other_length relative below v) (ends_behind (codes "px") w (codes "em") (omega arith))
    ∙ ap (λ (b : Bool). if b then relative_of below v else zero_of v) h.0
    ∙ ap (λ (b : Bool). if b then option_map in_rem (read_number (relative_form below) (before (codes "rem") v)) else em_or_zero below v) (not_rem w n)
    ∙ ap (λ (b : Bool). if b then option_map in_em (read_number (relative_form below) (before (codes "em") v)) else zero_of v) (ends_behind (codes "em") w (codes "em") (omega arith))
    ∙ ap (λ (u : Word). option_map in_em (read_number (relative_form below) u)) (before_unit (codes "em") w)
    ∙ ap (option_map in_em) (number_back (relative_form below) m refl (small_at (unsigned_abs m) 1000000 10000000000 h.1.1.0 (omega arith)) h.1.1.0 h.1.1.1)
    ∙ ap (λ (z : ℤ). Some (z, unit.Em m)) (sym h.1.0)
length_back relative below px (unit.Rem m) h =
    let w : Word = number 1000000 m in
    let v : Word = w ++ codes "rem" in
    ap (λ (b : Bool). if b then option_map in_px (read_number (px_form below) (before (codes "px") v)) else other_length relative below v) (ends_behind (codes "px") w (codes "rem") (omega arith))
    ∙ ap (λ (b : Bool). if b then relative_of below v else zero_of v) h.0
    ∙ ap (λ (b : Bool). if b then option_map in_rem (read_number (relative_form below) (before (codes "rem") v)) else em_or_zero below v) (ends_behind (codes "rem") w (codes "rem") (omega arith))
    ∙ ap (λ (u : Word). option_map in_rem (read_number (relative_form below) u)) (before_unit (codes "rem") w)
    ∙ ap (option_map in_rem) (number_back (relative_form below) m refl (small_at (unsigned_abs m) 1000000 10000000000 h.1.1.0 (omega arith)) h.1.1.0 h.1.1.1)
    ∙ ap (λ (z : ℤ). Some (z, unit.Rem m)) (sym h.1.0)

-- no length ends with `%` or `fr`
pub no_percent : (px : ℤ) (u : Unit) → ends_in (codes "%") (length_word px u) ≡ false
no_percent px unit.Px = ends_behind (codes "%") (number 64 px) (codes "px") (omega arith)
no_percent px (unit.Em m) = ends_behind (codes "%") (number 1000000 m) (codes "em") (omega arith)
no_percent px (unit.Rem m) = ends_behind (codes "%") (number 1000000 m) (codes "rem") (omega arith)

pub no_flex : (px : ℤ) (u : Unit) → ends_in (codes "fr") (length_word px u) ≡ false
no_flex px unit.Px = ends_behind (codes "fr") (number 64 px) (codes "px") (omega arith)
no_flex px (unit.Em m) = ends_behind (codes "fr") (number 1000000 m) (codes "em") (omega arith)
no_flex px (unit.Rem m) = ends_behind (codes "fr") (number 1000000 m) (codes "rem") (omega arith)

pub length_plain : (relative below : Bool) (px : ℤ) (u : Unit) → IsLength relative below px u → list_all is_plain (length_word px u) ≡ true
length_plain relative below px unit.Px h = both_plain (number 64 px) (codes "px") (px_numeral px h.0).plain refl
length_plain relative below px (unit.Em m) h = both_plain (number 1000000 m) (codes "em") (millionths_numeral m h.1.1.0).plain refl
length_plain relative below px (unit.Rem m) h = both_plain (number 1000000 m) (codes "rem") (millionths_numeral m h.1.1.0).plain refl

-- ---- percentages and factors

thousandths_numeral : (t : ℕ) → t ≤ 10000000 → IsNumeral (factor t)
thousandths_numeral t h = numeral 1000 (pos t) refl (small_at t 1000 10000000 h (omega arith))

pub percent_back : (t : ℕ) → t ≤ 1000000 → percentage_of (percentage t) ≡ Some t
percent_back t h =
    let w : Word = factor t in
    ap (λ (b : Bool). option_map unsigned_abs (if b then read_number percentages (before (codes "%") (w ++ codes "%")) else None)) (ends_behind (codes "%") w (codes "%") (omega arith))
    ∙ ap (λ (v : Word). option_map unsigned_abs (read_number percentages v)) (before_unit (codes "%") w)
    ∙ ap (option_map unsigned_abs) (number_back percentages (pos t) refl (small_at t 1000 1000000 h (omega arith)) h refl)

pub is_percent : (t : ℕ) → ends_in (codes "%") (percentage t) ≡ true
is_percent t = ends_behind (codes "%") (factor t) (codes "%") (omega arith)

pub percent_plain : (t : ℕ) → t ≤ 1000000 → list_all is_plain (percentage t) ≡ true
percent_plain t h = both_plain (factor t) (codes "%") (thousandths_numeral t (omega (arith, h))).plain refl

pub factor_back : (t : ℕ) → t ≤ 10000000 → factor_of (factor t) ≡ Some t
factor_back t h = ap (option_map unsigned_abs) (number_back factors (pos t) refl (small_at t 1000 10000000 h (omega arith)) h refl)

pub factor_numeral : (t : ℕ) → t ≤ 10000000 → IsNumeral (factor t)
factor_numeral t h = thousandths_numeral t h

pub flex_back : (t : ℕ) → t ≤ 10000000 → flex_of (factor t ++ codes "fr") ≡ Some t
flex_back t h =
    let w : Word = factor t in
    ap (λ (b : Bool). option_map unsigned_abs (if b then read_number factors (before (codes "fr") (w ++ codes "fr")) else None)) (ends_behind (codes "fr") w (codes "fr") (omega arith))
    ∙ ap (λ (v : Word). option_map unsigned_abs (read_number factors v)) (before_unit (codes "fr") w)
    ∙ ap (option_map unsigned_abs) (number_back factors (pos t) refl (small_at t 1000 10000000 h (omega arith)) h refl)

pub is_flex : (t : ℕ) → ends_in (codes "fr") (factor t ++ codes "fr") ≡ true
is_flex t = ends_behind (codes "fr") (factor t) (codes "fr") (omega arith)

pub flex_plain : (t : ℕ) → t ≤ 10000000 → list_all is_plain (factor t ++ codes "fr") ≡ true
flex_plain t h = both_plain (factor t) (codes "fr") (thousandths_numeral t h).plain refl

-- ---- whole numbers

no_points : (ds : List ℕ) → all_digits ds ≡ true → list_any is_point ds ≡ false
no_points [] h = refl
no_points (d ∷ ds) h =
    let parts = and_parts (is_digit d) (all_digits ds) h in
    let low : nat_le 48 d ≡ true = (and_parts (nat_le 48 d) (nat_le d 57) parts.0).0 in
    ap (λ (b : Bool). b || list_any is_point ds) (ne_eqb d 46 (λ e. omega (arith, e, leb-true 48 d low))) ∙ no_points ds parts.1

minus_then : (z : ℤ) (ds : List ℕ) → list_any is_point (minus_of z ++ ds) ≡ list_any is_point ds
minus_then (pos n) ds = refl
minus_then (negsuc n) ds = refl

no_decimals : (n : ℕ) → decimals 1 (n % 1) ≡ []
no_decimals n = ap (decimals 1) (let e : n % 1 ≡ 0 = omega (arith, mod_below n 1 (omega arith)) in e)

pub integer_back : (z : ℤ) → unsigned_abs z ≤ 1000000 → integer_of (integer z) ≡ Some z
integer_back z h =
    let w : ℕ = unsigned_abs z / 1 in
    let small : w < 2 ^ 64 = small_at (unsigned_abs z) 1 1000000 h (omega arith) in
    let whole : integer z ≡ minus_of z ++ decimal w = number_parts 1 z ∙ ap (λ (f : List ℕ). (minus_of z ++ decimal w) ++ f) (no_decimals (unsigned_abs z)) ∙ append-nil (minus_of z ++ decimal w) in
    ap (λ (b : Bool). if b then None else read_number integers (integer z)) (ap (list_any is_point) whole ∙ minus_then z (decimal w) ∙ no_points (decimal w) (digits_decimal own w small))
    ∙ number_back integers z refl small (omega (arith, h)) refl

pub integer_numeral : (z : ℤ) → unsigned_abs z ≤ 1000000 → IsNumeral (integer z)
integer_numeral z h = numeral 1 z refl (small_at (unsigned_abs z) 1 1000000 h (omega arith))

-- the number of px of a node
pub px_numeral_at : (px : ℤ) → unsigned_abs px ≤ 67108864 → IsNumeral (px_number px)
px_numeral_at px h = px_numeral px h
