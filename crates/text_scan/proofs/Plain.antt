-- Small letters and digits, which end no word.
use Rattle.std.proofs.Common.{◌≡◌, refl, ap, sym, ◌∙◌, ℕ, ◌≤◌, Bool, true, false, ◌||◌, ◌==◌, nat_le, arith}
use Rattle.std.proofs.lemmas.Bool.{and_parts, false≢true, leb-true, ne_eqb}
use Rattle.lunit.specs.Names.{between}
use Rattle.text_scan.specs.Tokens.{is_separator}

-- one byte that it is not, and then the others
apart : {rest : Bool} (b m : ℕ) → (b ≡ m → ⊥) → rest ≡ false → ((b == m) || rest) ≡ false
apart {rest} b m h e = ap (λ (t : Bool). t || rest) (ne_eqb b m h) ∙ e

letter_goes_on : (b : ℕ) → 97 ≤ b → b ≤ 122 → is_separator b ≡ false
letter_goes_on b l m =
    apart b 32 (λ e. omega (arith, e, l)) (
    apart b 123 (λ e. omega (arith, e, m)) (
    apart b 125 (λ e. omega (arith, e, m)) (
    apart b 40 (λ e. omega (arith, e, l)) (
    apart b 41 (λ e. omega (arith, e, l)) (
    apart b 91 (λ e. omega (arith, e, l)) (
    apart b 93 (λ e. omega (arith, e, l)) (
    apart b 58 (λ e. omega (arith, e, l)) (
    apart b 59 (λ e. omega (arith, e, l)) (
    apart b 44 (λ e. omega (arith, e, l)) (
    apart b 47 (λ e. omega (arith, e, l)) refl))))))))))

digit_goes_on : (b : ℕ) → 48 ≤ b → b ≤ 57 → is_separator b ≡ false
digit_goes_on b l m =
    apart b 32 (λ e. omega (arith, e, l)) (
    apart b 123 (λ e. omega (arith, e, m)) (
    apart b 125 (λ e. omega (arith, e, m)) (
    apart b 40 (λ e. omega (arith, e, l)) (
    apart b 41 (λ e. omega (arith, e, l)) (
    apart b 91 (λ e. omega (arith, e, m)) (
    apart b 93 (λ e. omega (arith, e, m)) (
    apart b 58 (λ e. omega (arith, e, m)) (
    apart b 59 (λ e. omega (arith, e, m)) (
    apart b 44 (λ e. omega (arith, e, l)) (
    apart b 47 (λ e. omega (arith, e, l)) refl))))))))))

pub plain_goes_on : (b : ℕ) → (between 97 122 b || between 48 57 b) ≡ true → false ≡ is_separator b
plain_goes_on b h = sym (by (between 97 122 b) (between 48 57 b) refl refl h)
  where
    by : (letter digit : Bool) → between 97 122 b ≡ letter → between 48 57 b ≡ digit → (letter || digit) ≡ true → is_separator b ≡ false
    by true digit e f g =
        let parts = and_parts (nat_le 97 b) (nat_le b 122) e in
        letter_goes_on b (leb-true 97 b parts.0) (leb-true b 122 parts.1)
    by false true e f g =
        let parts = and_parts (nat_le 48 b) (nat_le b 57) f in
        digit_goes_on b (leb-true 48 b parts.0) (leb-true b 57 parts.1)
    by false false e f g = absurd (false≢true g)

pub ruleset plain_bytes = (plain_goes_on)
