-- A length that a word reads as is in range.
use Rattle.std.proofs.Common.{◌≡◌, refl, sym, ◌∙◌, subst, arith, ◌≤◌, ℤ, pos, negsuc, ◌≤ℤ◌, int_le, unsigned_abs, Bool, true, false}
use Rattle.std.specs.Prelude.{IfSome, codes}
use Rattle.std.proofs.lemmas.Int.{ints}
use Rattle.std.specs.Option.{option_map}
use Rattle.lunit.specs.Forms.{zeros}
use Rattle.lunit.specs.Decimals.{read_number}
use Rattle.style_types.specs.declared.unit.Unit.{Unit}
use Rattle.track_text.specs.Words.{Word}
use Rattle.track_text.specs.Values.{ends_in, before, px_form, relative_form, in_px, in_em, in_rem, zero_of, em_or_zero, relative_of, other_length, length_in}
use Rattle.placing.specs.Ranges.{IsEdge, IsOffset}
use Rattle.page_tree.specs.Ranges.{is_unit}
use Rattle.page_tree.proofs.ToldOptions.{some_if, some_map, some_weaker}
use Rattle.page_tree.proofs.ToldNumbers.{IsNumber, number_read}

-- a length with its unit, where it may be below 0, and where not
pub record IsLength (below_zero : Bool) (read : ℤ × Unit) : Type 0 where
  pub offset : IsOffset read.0
  pub edge : below_zero ≡ false → IsEdge read.0
  pub unit : below_zero ≡ false → is_unit read.1 ≡ true

pub near : (z : ℤ) → unsigned_abs z ≤ 67108864 → IsOffset z
near (pos n) h = record { low = omega (arith, ints); high = omega (arith, ints, h) }
near (negsuc n) h = record { low = omega (arith, ints, h); high = omega (arith, ints) }

pub test_low : (z : ℤ) → pos 0 ≤ℤ z → int_le (pos 0) z ≡ true
test_low z h = by_test (int_le (pos 0) z) refl
  where
    by_test : (b : Bool) → int_le (pos 0) z ≡ b → b ≡ true
    by_test true e = refl
    by_test false e = absurd (omega (arith, ints, e, h))

px_length : (below_zero : Bool) (z : ℤ) → IsNumber (px_form below_zero) z → IsLength below_zero (in_px z)
px_length below_zero z n =
    let offset = near z n.size in
    record { offset = offset; edge = λ none. record { low = n.sign none; high = offset.high }; unit = λ none. refl }

no_length : (z : ℤ) → unsigned_abs z ≤ 0 → IsEdge z
no_length (pos n) h = record { low = omega (arith, ints); high = omega (arith, ints, h) }
no_length (negsuc n) h = absurd (omega (arith, h))

zero_length : (below_zero : Bool) (z : ℤ) → IsNumber zeros z → IsLength below_zero (in_px z)
zero_length below_zero z n = record { offset = near z (omega (arith, n.size)); edge = λ none. no_length z n.size; unit = λ none. refl }

relative_length : (below_zero : Bool) (z : ℤ) (u : ℤ → ℤ × Unit) → (u z).0 ≡ pos 0 → is_unit (u z).1 ≡ int_le (pos 0) z → IsNumber (relative_form below_zero) z → IsLength below_zero (u z)
relative_length below_zero z u e same n = record {
  offset = subst IsOffset (sym e) (record { low = omega (arith, ints); high = omega (arith, ints) });
  edge = λ none. subst IsEdge (sym e) (record { low = omega (arith, ints); high = omega (arith, ints) });
  unit = λ none. same ∙ test_low z (n.sign none);
}

zero_in : (below_zero : Bool) (word : Word) → IfSome (zero_of word) (IsLength below_zero)
zero_in below_zero word =
    some_map (IsLength below_zero) in_px (read_number zeros word)
    (some_weaker (IsNumber zeros) (λ z. IsLength below_zero (in_px z)) (read_number zeros word) (zero_length below_zero) (number_read zeros word))

em_in : (below_zero : Bool) (word : Word) → IfSome (em_or_zero below_zero word) (IsLength below_zero)
em_in below_zero word =
    let read = read_number (relative_form below_zero) (before (codes "em") word) in
    some_if (IsLength below_zero) (ends_in (codes "em") word) (option_map in_em read) (zero_of word)
    (some_map (IsLength below_zero) in_em read
    (some_weaker (IsNumber (relative_form below_zero)) (λ z. IsLength below_zero (in_em z)) read (λ z. relative_length below_zero z in_em refl refl) (number_read (relative_form below_zero) (before (codes "em") word))))
    (zero_in below_zero word)

relative_in : (below_zero : Bool) (word : Word) → IfSome (relative_of below_zero word) (IsLength below_zero)
relative_in below_zero word =
    let read = read_number (relative_form below_zero) (before (codes "rem") word) in
    some_if (IsLength below_zero) (ends_in (codes "rem") word) (option_map in_rem read) (em_or_zero below_zero word)
    (some_map (IsLength below_zero) in_rem read
    (some_weaker (IsNumber (relative_form below_zero)) (λ z. IsLength below_zero (in_rem z)) read (λ z. relative_length below_zero z in_rem refl refl) (number_read (relative_form below_zero) (before (codes "rem") word))))
    (em_in below_zero word)

pub length_read : (relative below_zero : Bool) (word : Word) → IfSome (length_in relative below_zero word) (IsLength below_zero)
length_read relative below_zero word =
    let read = read_number (px_form below_zero) (before (codes "px") word) in
    some_if (IsLength below_zero) (ends_in (codes "px") word) (option_map in_px read) (other_length relative below_zero word)
    (some_map (IsLength below_zero) in_px read
    (some_weaker (IsNumber (px_form below_zero)) (λ z. IsLength below_zero (in_px z)) read (px_length below_zero) (number_read (px_form below_zero) (before (codes "px") word))))
    (some_if (IsLength below_zero) relative (relative_of below_zero word) (zero_of word) (relative_in below_zero word) (zero_in below_zero word))
