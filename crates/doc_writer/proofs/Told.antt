-- What the forms of numbers and lengths can read.
use Rattle.std.proofs.Common.{◌≡◌, ℕ, zero, suc, ℤ, pos, negsuc, neg_ℤ, ◌+◌, ◌*◌, ◌/◌, ◌^◌, ◌<◌, ◌≤◌, Bool, true, false, not, ◌&&◌, ◌||◌, nat_lt, unsigned_abs, refl, ap, sym, subst, ◌∙◌, arith, if◌then◌else◌, Option, Some, None, inl, inr, ◌⊎◌, codes}
use Rattle.std.specs.Prelude.{⊤}
use Rattle.std.specs.List.{list_any}
use Rattle.std.specs.Option.{option_map}
use Rattle.std.proofs.lemmas.Bool.{and_parts, not-true, ltb-false, cases_lt}
use Rattle.std.proofs.lemmas.Nat.{div-add-mod'}
use Rattle.std.proofs.Math.Nat.{mul-le-mul_right, add-mul, mul_right_comm}
use Rattle.lunit.specs.declared.number.NumberForm.{NumberForm}
use Rattle.lunit.specs.Decimals.{Decimal, is_point, is_allowed, is_below_zero, passes, signed, truncated, number_of, read_allowed, read_number}
use Rattle.lunit.specs.Forms.{percentages, factors, integers, zeros}
use Rattle.lunit.specs.Printed.{is_negative}
use Rattle.lunit.proofs.Numerals.{power_above_zero}
use Rattle.style_types.specs.declared.unit.Unit.{Unit}
use Rattle.track_text.specs.Words.{Word, bind}
use Rattle.track_text.specs.Values.{ends_in, before, measured, px_form, relative_form, in_px, in_em, in_rem, zero_of, em_or_zero, relative_of, other_length, length_in, percentage_of, factor_of, flex_of, integer_of}
use Rattle.doc_writer.proofs.NumbersBack.{allows}
use Rattle.doc_writer.proofs.LengthsBack.{IsLength}

-- ---- what holds of each answer

abbrev pub Every : {A : Type 0} → (A → Type 0) → Option A → Type 0
Every P None = ⊤
Every P (Some x) = P x

pub every_map : {A B : Type 0} (P : B → Type 0) (f : A → B) (o : Option A) → Every (λ x. P (f x)) o → Every P (option_map f o)
every_map P f None h = tt
every_map P f (Some x) h = h

pub every_bind : {A B : Type 0} (P : B → Type 0) (Q : A → Type 0) (f : A → Option B) (o : Option A) → Every Q o → ((x : A) → Q x → Every P (f x)) → Every P (bind o f)
every_bind P Q f None q h = tt
every_bind P Q f (Some x) q h = h x q

pub every_if : {A : Type 0} (P : A → Type 0) (b : Bool) (x y : Option A) → (b ≡ true → Every P x) → (b ≡ false → Every P y) → Every P (if b then x else y)
every_if P true x y h k = h refl
every_if P false x y h k = k refl

pub every_so : {A : Type 0} (P Q : A → Type 0) (o : Option A) → ((x : A) → P x → Q x) → Every P o → Every Q o
every_so P Q None h p = tt
every_so P Q (Some x) h p = h x p

pub every_at : {A : Type 0} (P : A → Type 0) (o : Option A) (x : A) → Every P o → o ≡ Some x → P x
every_at P o x h e = subst (Every P) e h

-- ---- numbers

abbrev pub IsReadBy : NumberForm → ℤ → Type 0
IsReadBy form z = (unsigned_abs z ≤ form.most * form.scale) × (allows form z ≡ true)

size_of_signed : (negative : Bool) (n : ℕ) → unsigned_abs (signed negative n) ≡ n
size_of_signed true zero = refl
size_of_signed true (suc n) = refl
size_of_signed false n = refl

part_few : (n s p k : ℕ) → 0 < p → n ≤ k * p → n * s / p ≤ k * s
part_few n s p k some h = by_order (cases_lt (k * s) (n * s / p)) where
  by_order : (k * s < n * s / p) ⊎ (n * s / p ≤ k * s) → n * s / p ≤ k * s
  by_order (inr few) = few
  by_order (inl more) = absurd (omega (arith, some, div-add-mod' (n * s) p, mul-le-mul_right {m = n} {n = k * p} s h, mul-le-mul_right {m = k * s + 1} {n = n * s / p} p (omega (arith, more)), add-mul (k * s) 1 p, mul_right_comm k s p))

none_of_zero : (n s p : ℕ) → n ≡ 0 → 0 < p → n * s / p ≡ 0
none_of_zero n s p e some = omega (arith, part_few n s p 0 some (omega (arith, e)))

sign_kept : (form : NumberForm) (negative : Bool) (n p : ℕ) → 0 < p → (form.below_zero || not (negative && nat_lt 0 n)) ≡ true → allows form (signed negative (n * form.scale / p)) ≡ true
sign_kept form false n p some h = or_true form.below_zero where
  or_true : (b : Bool) → (b || true) ≡ true
  or_true true = refl
  or_true false = refl
sign_kept form true n p some h = by_below form.below_zero refl where
  not_below : (m : ℕ) → m ≡ 0 → not (is_negative (neg_ℤ (pos m))) ≡ true
  not_below m e = ap (λ (k : ℕ). not (is_negative (neg_ℤ (pos k)))) e

  by_below : (b : Bool) → form.below_zero ≡ b → (form.below_zero || not (is_negative (neg_ℤ (pos (n * form.scale / p))))) ≡ true
  by_below true e = ap (λ (b : Bool). b || not (is_negative (neg_ℤ (pos (n * form.scale / p))))) e
  by_below false e =
      let none : nat_lt 0 n ≡ false = not-true (nat_lt 0 n) (ap (λ (b : Bool). b || not (nat_lt 0 n)) (sym e) ∙ h) in
      ap (λ (b : Bool). b || not (is_negative (neg_ℤ (pos (n * form.scale / p))))) e
      ∙ not_below (n * form.scale / p) (none_of_zero n form.scale p (omega (arith, ltb-false 0 n none)) some)

allowed_told : (form : NumberForm) (o : Option Decimal) → Every (IsReadBy form) (read_allowed form o)
allowed_told form None = tt
allowed_told form (Some d) = every_if (IsReadBy form) (is_allowed form d) (Some (truncated form.scale d)) None told (λ e. tt) where
  place : ℕ
  place = 10 ^ d.places

  told : is_allowed form d ≡ true → IsReadBy form (truncated form.scale d)
  told h =
      let parts = and_parts (not (passes form.most d)) (form.below_zero || not (is_below_zero d)) h in
      let few : d.numerator ≤ form.most * place = ltb-false (form.most * place) d.numerator (not-true (passes form.most d) parts.0) in (
        omega (arith, size_of_signed d.negative (d.numerator * form.scale / place), part_few d.numerator form.scale place form.most (power_above_zero d.places) few),
        sign_kept form d.negative d.numerator place (power_above_zero d.places) parts.1,
      )

pub number_told : (form : NumberForm) (word : Word) → Every (IsReadBy form) (read_number form word)
number_told form word = allowed_told form (number_of word)

-- ---- lengths

abbrev pub IsLengthOf : Bool → Bool → ℤ × Unit → Type 0
IsLengthOf relative below length = IsLength relative below length.0 length.1

px_told : (relative below : Bool) (word : Word) → Every (IsLengthOf relative below) (option_map in_px (read_number (px_form below) word))
px_told relative below word = every_map (IsLengthOf relative below) in_px (read_number (px_form below) word) (every_so (IsReadBy (px_form below)) (λ z. IsLengthOf relative below (in_px z)) (read_number (px_form below) word) (λ z h. h) (number_told (px_form below) word))

zero_only : (z : ℤ) → unsigned_abs z ≤ 0 → z ≡ pos 0
zero_only (pos n) h = ap pos (let e : n ≡ 0 = omega (arith, h) in e)
zero_only (negsuc n) h = absurd (omega (arith, h))

zero_told : (relative below : Bool) (word : Word) → Every (IsLengthOf relative below) (zero_of word)
zero_told relative below word = every_map (IsLengthOf relative below) in_px (read_number zeros word) (every_so (IsReadBy zeros) (λ z. IsLengthOf relative below (in_px z)) (read_number zeros word) zero_fits (number_told zeros word)) where
  or_true : (b : Bool) → (b || true) ≡ true
  or_true true = refl
  or_true false = refl

  zero_fits : (z : ℤ) → IsReadBy zeros z → IsLengthOf relative below (in_px z)
  zero_fits z h =
      let none : z ≡ pos 0 = zero_only z h.0 in
      (omega (arith, ap unsigned_abs none), ap (λ (y : ℤ). below || not (is_negative y)) none ∙ or_true below)

em_told : (below : Bool) (word : Word) → Every (IsLengthOf true below) (em_or_zero below word)
em_told below word =
    every_if (IsLengthOf true below) (ends_in (codes "em") word) (option_map in_em (read_number (relative_form below) (before (codes "em") word))) (zero_of word)
    (λ e. every_map (IsLengthOf true below) in_em (read_number (relative_form below) (before (codes "em") word))
    (every_so (IsReadBy (relative_form below)) (λ z. IsLengthOf true below (in_em z)) (read_number (relative_form below) (before (codes "em") word)) (λ z h. (refl, (refl, (h.0, h.1)))) (number_told (relative_form below) (before (codes "em") word))))
    (λ e. zero_told true below word)

relative_told : (below : Bool) (word : Word) → Every (IsLengthOf true below) (relative_of below word)
relative_told below word =
    every_if (IsLengthOf true below) (ends_in (codes "rem") word) (option_map in_rem (read_number (relative_form below) (before (codes "rem") word))) (em_or_zero below word)
    (λ e. every_map (IsLengthOf true below) in_rem (read_number (relative_form below) (before (codes "rem") word))
    (every_so (IsReadBy (relative_form below)) (λ z. IsLengthOf true below (in_rem z)) (read_number (relative_form below) (before (codes "rem") word)) (λ z h. (refl, (refl, (h.0, h.1)))) (number_told (relative_form below) (before (codes "rem") word))))
    (λ e. em_told below word)

other_told : (relative below : Bool) (word : Word) → Every (IsLengthOf relative below) (other_length relative below word)
other_told true below word = relative_told below word
other_told false below word = zero_told false below word

pub length_told : (relative below : Bool) (word : Word) → Every (IsLengthOf relative below) (length_in relative below word)
length_told relative below word =
    every_if (IsLengthOf relative below) (ends_in (codes "px") word) (option_map in_px (read_number (px_form below) (before (codes "px") word))) (other_length relative below word)
    (λ e. px_told relative below (before (codes "px") word)) (λ e. other_told relative below word)

-- ---- percentages, factors and whole numbers

measured_told : (form : NumberForm) (end word : Word) → Every (IsReadBy form) (measured form end word)
measured_told form end word = every_if (IsReadBy form) (ends_in end word) (read_number form (before end word)) None (λ e. number_told form (before end word)) (λ e. tt)

pub percent_told : (word : Word) → Every (λ t. t ≤ 1000000) (percentage_of word)
percent_told word = every_map (λ t. t ≤ 1000000) unsigned_abs (measured percentages (codes "%") word) (every_so (IsReadBy percentages) (λ z. unsigned_abs z ≤ 1000000) (measured percentages (codes "%") word) (λ z h. h.0) (measured_told percentages (codes "%") word))

pub factor_told : (word : Word) → Every (λ t. t ≤ 10000000) (factor_of word)
factor_told word = every_map (λ t. t ≤ 10000000) unsigned_abs (read_number factors word) (every_so (IsReadBy factors) (λ z. unsigned_abs z ≤ 10000000) (read_number factors word) (λ z h. h.0) (number_told factors word))

pub flex_told : (word : Word) → Every (λ t. t ≤ 10000000) (flex_of word)
flex_told word = every_map (λ t. t ≤ 10000000) unsigned_abs (measured factors (codes "fr") word) (every_so (IsReadBy factors) (λ z. unsigned_abs z ≤ 10000000) (measured factors (codes "fr") word) (λ z h. h.0) (measured_told factors (codes "fr") word))

pub integer_told : (word : Word) → Every (λ z. unsigned_abs z ≤ 1000000) (integer_of word)
integer_told word =
    every_if (λ z. unsigned_abs z ≤ 1000000) (list_any is_point word) None (read_number integers word) (λ e. tt)
    (λ e. every_so (IsReadBy integers) (λ z. unsigned_abs z ≤ 1000000) (read_number integers word) (λ z h. let few : unsigned_abs z ≤ 1000000 * 1 = h.0 in omega (arith, few)) (number_told integers word))
