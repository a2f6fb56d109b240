-- Texts of digits without the zeros at their end.
use Rattle.std.proofs.Common.{arith, ap, sym, refl, ◌∙◌, ◌≡◌, ℕ, ◌+◌, ◌-◌, ◌<◌, ◌≤◌, Bool, true, false, ◌&&◌, List, [], ◌∷◌, ◌++◌, length, take, get_or, if◌then◌else◌}
use Rattle.std.specs.List.{list_all}
use Rattle.std.proofs.lemmas.Bool.{ne_eqb, and_right}
use Rattle.std.proofs.lemmas.List.{take_more}
use Rattle.std.proofs.lemmas.List.Folds.{list_all-append}
use Rattle.lunit.specs.Printed.{is_zero_digit, without_last_zeros}

-- a zero at the end is left out
zero_left_out : (xs : List ℕ) → without_last_zeros (xs ++ 48 ∷ []) ≡ without_last_zeros xs
zero_left_out [] = refl
zero_left_out (x ∷ xs) =
    ap (λ (b : Bool). if b then [] else x ∷ without_last_zeros (xs ++ 48 ∷ [])) (list_all-append is_zero_digit (x ∷ xs) (48 ∷ []) ∙ and_true (list_all is_zero_digit (x ∷ xs)))
    ∙ ap (λ (ys : List ℕ). if list_all is_zero_digit (x ∷ xs) then [] else x ∷ ys) (zero_left_out xs)
  where
    and_true : (b : Bool) → (b && true) ≡ b
    and_true true = refl
    and_true false = refl

-- another digit at the end keeps all
digit_stays : (xs : List ℕ) (d : ℕ) → (d ≡ 48 → ⊥) → without_last_zeros (xs ++ d ∷ []) ≡ xs ++ d ∷ []
digit_stays [] d h = ap (λ (b : Bool). if b && true then [] else d ∷ []) (ne_eqb d 48 h)
digit_stays (x ∷ xs) d h =
    ap (λ (b : Bool). if b then [] else x ∷ without_last_zeros (xs ++ d ∷ [])) (list_all-append is_zero_digit (x ∷ xs) (d ∷ []) ∙ and_right (list_all is_zero_digit (x ∷ xs)) (is_zero_digit d && true) (ap (λ (b : Bool). b && true) (ne_eqb d 48 h)))
    ∙ ap (λ (ys : List ℕ). x ∷ ys) (digit_stays xs d h)

pub step_left_out : (xs : List ℕ) (e : ℕ) → 0 < e → e ≤ length xs → get_or xs (e - 1) 0 ≡ 48 → without_last_zeros (take (e - 1) xs) ≡ without_last_zeros (take e xs)
step_left_out xs e some h zero =
    sym (zero_left_out (take (e - 1) xs))
    ∙ ap (λ (d : ℕ). without_last_zeros (take (e - 1) xs ++ d ∷ [])) (sym zero)
    ∙ ap without_last_zeros (sym (take_more xs (e - 1) 0 (omega arith)) ∙ ap (λ (n : ℕ). take n xs) (let f : e - 1 + 1 ≡ e = omega (arith, some) in f))

pub all_shown : (xs : List ℕ) (e : ℕ) → 0 < e → e ≤ length xs → (get_or xs (e - 1) 0 ≡ 48 → ⊥) → take e xs ≡ without_last_zeros (take e xs)
all_shown xs e some h other =
    let last : take e xs ≡ take (e - 1) xs ++ get_or xs (e - 1) 0 ∷ [] = ap (λ (n : ℕ). take n xs) (let f : e ≡ e - 1 + 1 = omega (arith, some) in f) ∙ take_more xs (e - 1) 0 (omega arith) in
    last ∙ sym (digit_stays (take (e - 1) xs) (get_or xs (e - 1) 0) other) ∙ ap without_last_zeros (sym last)
