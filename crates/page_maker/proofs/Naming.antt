-- Names of nodes.
use Rattle.std.proofs.Common.{◌≡◌, sym, ap, ◌∙◌, refl, ℕ, ◌+◌, ◌%◌, ◌^◌, ◌<◌, ◌≤◌, Bool, true, false, ◌&&◌, ◌||◌, [], ◌∷◌, length, drop, arith}
use Rattle.std.specs.Prelude.{decimal, nat_le, ◌==◌}
use Rattle.std.specs.List.{list_all}
use Rattle.std.proofs.lemmas.Bool.{le-leb, true≢false}
use Rattle.std.proofs.lemmas.Fmt.{decimal_by_steps, length-decimal-le, decimal_injective}
use Rattle.std.proofs.lemmas.List.Folds.{list_all-append}
use Rattle.lunit.specs.Names.{is_name, between, begins_name, continues_name}
use Rattle.page_maker.specs.Nodes.{name_of}

both_true : (a b : Bool) → a ≡ true → b ≡ true → (a && b) ≡ true
both_true true b p q = q
both_true false b p q = p

first_true : (a b : Bool) → a ≡ true → (a || b) ≡ true
first_true true b p = refl
first_true false b p = absurd (true≢false (sym p))

last_true : (a b : Bool) → b ≡ true → (a || b) ≡ true
last_true true b q = refl
last_true false b q = q

digit_continues : (n : ℕ) → n < 10 → continues_name (48 + n) ≡ true
digit_continues n h =
    last_true (begins_name (48 + n)) (between 48 57 (48 + n) || (48 + n) == 45)
    (first_true (between 48 57 (48 + n)) ((48 + n) == 45) (both_true (nat_le 48 (48 + n)) (nat_le (48 + n) 57) (le-leb 48 (48 + n) (omega arith)) (le-leb (48 + n) 57 (omega arith))))

decimal_continues : (n : ℕ) → n < 2 ^ 64 → list_all continues_name (decimal n) ≡ true
decimal_continues = decimal_by_steps (λ n ds. list_all continues_name ds ≡ true)
    (λ n h. both_true (continues_name (48 + n)) true (digit_continues n h) refl)
    (λ n ds h k. list_all-append continues_name ds ((48 + n % 10) ∷ []) ∙ both_true (list_all continues_name ds) (continues_name (48 + n % 10) && true) k (both_true (continues_name (48 + n % 10)) true (digit_continues (n % 10) (omega arith)) refl))

-- `n` and a number are a name
pub is_a_name : (n : ℕ) → n < 2 ^ 64 → is_name (name_of n) ≡ true
is_a_name n h =
    let short : length (decimal n) ≤ 20 = length-decimal-le 20 n (omega arith) (omega arith) h in
    both_true (list_all continues_name (decimal n)) (nat_le (length (name_of n)) 58) (decimal_continues n h) (le-leb (length (name_of n)) 58 (omega arith))

-- of two numbers the names differ
pub same_number : (m n : ℕ) → m < 2 ^ 64 → n < 2 ^ 64 → name_of m ≡ name_of n → m ≡ n
same_number m n p q e = decimal_injective m n p q (ap (drop 1) e)
