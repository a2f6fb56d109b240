-- Texts of digits, as `parse` reads them.
use Rattle.std.proofs.Common.{◌≡◌, ◌∙◌, ap, sym, refl, ℕ, ◌<◌, ◌≤◌, ◌^◌, ◌&&◌, Bool, true, false, List, length, Option, Some, None, Ok, Err}
use Rattle.std.specs.Prelude.{if◌then◌else◌, nat_lt, nat_le}
use Rattle.std.specs.Str.{all_ascii_digits}
use Rattle.std.specs.Str.Parse.{ParsesUnsigned, digits_value}
use Rattle.std.proofs.lemmas.Bool.{lt-leb, lt-ltb, ltb-true, le-leb}
use Rattle.std.proofs.lemmas.Str.Parse.{IsNumeralModel, numerals_by_value, tells_all_ascii_digits, parse_digits}
use Rattle.command_words.specs.Commands.{number_of, is_number, below}

own : IsNumeralModel (λ ds. all_ascii_digits ds ≡ true) (digits_value 10)
own = numerals_by_value _ tells_all_ascii_digits

first_false : (a b c : Bool) → a ≡ false → ((a && b) && c) ≡ false
first_false a b c e = ap (λ (x : Bool). (x && b) && c) e

second_false : (a b c : Bool) → b ≡ false → ((a && b) && c) ≡ false
second_false true b c e = ap (λ (x : Bool). x && c) e
second_false false b c e = refl

third_false : (a b c : Bool) → c ≡ false → ((a && b) && c) ≡ false
third_false true true c e = e
third_false true false c e = refl
third_false false b c e = refl

all_true : (a b c : Bool) → a ≡ true → b ≡ true → c ≡ true → ((a && b) && c) ≡ true
all_true a b c p q r = ap (λ (x : Bool). (x && b) && c) p ∙ ap (λ (x : Bool). x && c) q ∙ r

pub both_none : {A : Type 0} (b : Bool) → ◌≡◌ {A = Option A} (if b then None else None) None
both_none true = refl
both_none false = refl

module _ (text : List ℕ) where
  none_where : is_number text ≡ false → None ≡ number_of text
  unfolding number_of
  none_where e = sym (ap (λ (b : Bool). if b then below (digits_value 10 text) else None) e)

  pub too_long : 20 < length text → None ≡ number_of text
  too_long p = none_where (second_false (nat_lt 0 (length text)) (nat_le (length text) 20) (all_ascii_digits text) (lt-leb (length text) 20 p))

  pub no_digits : false ≡ all_ascii_digits text → None ≡ number_of text
  no_digits e = none_where (third_false (nat_lt 0 (length text)) (nat_le (length text) 20) (all_ascii_digits text) (sym e))

  module _ (digits : true ≡ all_ascii_digits text) where
    pub is_read : (number : ℕ) → length text ≤ 20 → ParsesUnsigned {E = ℕ} 64 10 text (Ok number) → Some number ≡ number_of text
    unfolding number_of
    is_read number few h =
        let p = parse_digits own {E = ℕ} 64 text (Ok number) h (sym digits) in
        let all = all_true (nat_lt 0 (length text)) (nat_le (length text) 20) (all_ascii_digits text) (lt-ltb 0 (length text) p.0.0) (le-leb (length text) 20 few) (sym digits) in
        ap (λ (n : ℕ). Some n) p.1
        ∙ sym (ap (λ (b : Bool). if b then below (digits_value 10 text) else None) all ∙ ap (λ (b : Bool). if b then Some (digits_value 10 text) else None) (lt-ltb (digits_value 10 text) (2 ^ 64) p.0.1))

    pub not_read : ParsesUnsigned {E = ℕ} 64 10 text (Err 0) → None ≡ number_of text
    unfolding number_of
    not_read h = by_tests (nat_lt 0 (length text)) refl (nat_lt (digits_value 10 text) (2 ^ 64)) refl
      where
        by_tests : (a : Bool) → nat_lt 0 (length text) ≡ a → (b : Bool) → nat_lt (digits_value 10 text) (2 ^ 64) ≡ b → None ≡ number_of text
        by_tests false e b f = none_where (first_false (nat_lt 0 (length text)) (nat_le (length text) 20) (all_ascii_digits text) e)
        by_tests true e false f =
            sym (ap (λ (b : Bool). if is_number text then (if b then Some (digits_value 10 text) else None) else None) f ∙ both_none (is_number text))
        by_tests true e true f =
            absurd (parse_digits own {E = ℕ} 64 text (Err 0) h (sym digits) (ltb-true 0 (length text) e, ltb-true (digits_value 10 text) (2 ^ 64) f))

pub ruleset numbers = (too_long, no_digits, is_read, not_read)
