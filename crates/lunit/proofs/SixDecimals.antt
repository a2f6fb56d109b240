-- Digits past the sixth decimal are without effect.
use Rattle.std.proofs.Common.{arith, ap, sym, ◌∙◌, ◌≡◌, ℕ, ◌+◌, ◌-◌, ◌*◌, ◌/◌, ◌%◌, ◌^◌, Bool, true, List, ◌++◌, length, take}
use Rattle.std.proofs.lemmas.Bool.{and_from}
use Rattle.std.proofs.lemmas.List.{take_all}
use Rattle.std.proofs.lemmas.List.Folds.{list_all-append}
use Rattle.std.proofs.Math.Seq.{take-append_seam}
use Rattle.lunit.specs.Decimals.{is_digit, all_digits, digits_number, decimal_of, signed, truncated, IsScale}
use Rattle.lunit.proofs.Numerals.{parts_whole, parts_rest, six_make, power_above_zero}
use Rattle.lunit.proofs.Allowed.{parts_are}

-- the parts of a number: those of the whole, and those of its millionths
parts_of : (scale : ℕ) (w xs : List ℕ) → IsScale scale → all_digits xs ≡ true → digits_number (w ++ xs) * scale / 10 ^ length xs ≡ digits_number w * scale + digits_number (take 6 xs) * 10 ^ (6 - length (take 6 xs)) / (1000000 / scale)
parts_of scale w xs e h =
    sym (parts_are (digits_number (w ++ xs)) scale (10 ^ length xs) (1000000 / scale) e (power_above_zero (length xs)))
    ∙ ap (λ (n : ℕ). n * scale + digits_number (w ++ xs) % 10 ^ length xs * 1000000 / 10 ^ length xs / (1000000 / scale)) (parts_whole w xs h)
    ∙ ap (λ (n : ℕ). digits_number w * scale + n * 1000000 / 10 ^ length xs / (1000000 / scale)) (parts_rest w xs h)
    ∙ ap (λ (n : ℕ). digits_number w * scale + n / (1000000 / scale)) (sym (six_make xs h))

pub six_count : (scale : ℕ) (negative : Bool) (w ds more : List ℕ) → IsScale scale → all_digits ds ≡ true → all_digits more ≡ true → length ds ≡ 6 → truncated scale (decimal_of negative w (ds ++ more)) ≡ truncated scale (decimal_of negative w ds)
six_count scale negative w ds more e h g six =
    let good : all_digits (ds ++ more) ≡ true = list_all-append is_digit ds more ∙ and_from (all_digits ds) (all_digits more) h g in
    let front : take 6 (ds ++ more) ≡ ds = ap (λ (n : ℕ). take n (ds ++ more)) (sym six) ∙ take-append_seam ds more in
    let all : take 6 ds ≡ ds = take_all 6 ds (omega (arith, six)) in
    ap (signed negative)
    (parts_of scale w (ds ++ more) e good
    ∙ ap (λ (xs : List ℕ). digits_number w * scale + digits_number xs * 10 ^ (6 - length xs) / (1000000 / scale)) (front ∙ sym all)
    ∙ sym (parts_of scale w ds e h))
