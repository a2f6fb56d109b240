-- The first element of a list that passes a test.
use Rattle.std.proofs.Common.{◌≡◌, refl, ap, sym, subst, ◌∙◌, ℕ, zero, suc, ◌+◌, ◌<◌, ◌≤◌, Bool, true, false, not, ◌||◌, cond, ltb, List, [], ◌∷◌, ◌++◌, length, drop, Option, Some, None, MatchOption, inl, inr, ◌⊎◌, arith, length-drop}
use Rattle.std.specs.List.{position, position_or_len, list_any}
use Rattle.std.specs.Option.{option_map}
use Rattle.std.proofs.lemmas.Bool.{cases_lt, cond-true, cond-false, lt-ltb, le-ltb}
use Rattle.std.proofs.lemmas.List.Sums.{prefix_len-le-length}

pub position_or_len-le : {X : Type 0} (p : X → Bool) (xs : List X) → position_or_len p xs ≤ length xs
position_or_len-le p xs = prefix_len-le-length (λ x. not (p x)) xs

list_any_step : (b a : Bool) (n m : ℕ) → a ≡ ltb n m → (b || a) ≡ ltb (cond (not b) (1 + n) 0) (suc m)
list_any_step true a n m h = sym (lt-ltb 0 (suc m) (omega arith))
list_any_step false a n m h = grind (arith, h)

pub list_any_is : {X : Type 0} (p : X → Bool) (xs : List X) → list_any p xs ≡ ltb (position_or_len p xs) (length xs)
list_any_is p [] = refl
list_any_is p (x ∷ xs) = list_any_step (p x) _ _ _ (list_any_is p xs)

drop_step : (b : Bool) (n k m : ℕ) → suc k ≤ cond (not b) (1 + n) 0 → (k ≤ n → n ≡ k + m) → cond (not b) (1 + n) 0 ≡ suc k + m
drop_step true n k m h e = omega arith
drop_step false n k m h e = omega (arith, e (omega arith))

-- a front in which no element passes can be passed over
pub position_or_len-drop : {X : Type 0} (p : X → Bool) (xs : List X) (k : ℕ) → k ≤ position_or_len p xs → position_or_len p xs ≡ k + position_or_len p (drop k xs)
position_or_len-drop p xs zero h = omega arith
position_or_len-drop p [] (suc k) h = omega arith
position_or_len-drop p (x ∷ xs) (suc k) h = drop_step (p x) _ k _ h (position_or_len-drop p xs k)

append_step : (b : Bool) (n m : ℕ) → n ≤ m → cond (not b) (1 + n) 0 ≤ cond (not b) (1 + m) 0
append_step true n m h = omega arith
append_step false n m h = omega arith

-- more elements leave the first place that passes, or put it later
pub position_or_len-append : {X : Type 0} (p : X → Bool) (xs ys : List X) → position_or_len p xs ≤ position_or_len p (xs ++ ys)
position_or_len-append p [] ys = omega arith
position_or_len-append p (x ∷ xs) ys = append_step (p x) _ _ (position_or_len-append p xs ys)

-- ---- `position`, by its parts

found : (n m : ℕ) → n < m → cond (ltb n m) (Some n) None ≡ Some n
found n m h = cond-true (ltb n m) _ _ (lt-ltb n m h)

absent : (n m : ℕ) → m ≤ n → cond (ltb n m) (Some n) None ≡ None
absent n m h = cond-false (ltb n m) _ _ (le-ltb n m h)

pub position_found : {X : Type 0} (p : X → Bool) (xs : List X) → position_or_len p xs < length xs → position p xs ≡ Some (position_or_len p xs)
position_found p xs h = found _ _ h

pub position_absent : {X : Type 0} (p : X → Bool) (xs : List X) → length xs ≤ position_or_len p xs → position p xs ≡ None
position_absent p xs h = absent _ _ h

-- a front in which no element passes can be passed over
pub position-drop : {X : Type 0} (p : X → Bool) (xs : List X) (k : ℕ) → k ≤ position_or_len p xs → position p xs ≡ option_map (λ i. k + i) (position p (drop k xs))
position-drop p xs k h = by_cases (cases_lt (position_or_len p xs) (length xs))
  where
    same : position_or_len p xs ≡ k + position_or_len p (drop k xs)
    same = position_or_len-drop p xs k h

    by_cases : (position_or_len p xs < length xs) ⊎ (length xs ≤ position_or_len p xs) → position p xs ≡ option_map (λ i. k + i) (position p (drop k xs))
    by_cases (inl lt) = position_found p xs lt ∙ ap Some same ∙ ap (option_map (λ i. k + i)) (sym (position_found p (drop k xs) (omega (arith, same, length-drop k xs))))
    by_cases (inr ge) = position_absent p xs ge ∙ ap (option_map (λ i. k + i)) (sym (position_absent p (drop k xs) (omega (arith, same, length-drop k xs))))

-- what `position` gives: the first place that passes, or nothing where that is the end
pub position_cases : {X : Type 0} (p : X → Bool) (xs : List X) (r : Option ℕ) → r ≡ position p xs → MatchOption r (position_or_len p xs ≡ length xs) (λ k. (k ≡ position_or_len p xs) × (k < length xs))
position_cases p xs r e = by_cases (cases_lt (position_or_len p xs) (length xs))
  where
    result_is : (s : Option ℕ) → r ≡ s → MatchOption s (position_or_len p xs ≡ length xs) (λ k. (k ≡ position_or_len p xs) × (k < length xs)) → MatchOption r (position_or_len p xs ≡ length xs) (λ k. (k ≡ position_or_len p xs) × (k < length xs))
    result_is s q m = subst (λ (o : Option ℕ). MatchOption o (position_or_len p xs ≡ length xs) (λ k. (k ≡ position_or_len p xs) × (k < length xs))) (sym q) m

    by_cases : (position_or_len p xs < length xs) ⊎ (length xs ≤ position_or_len p xs) → MatchOption r (position_or_len p xs ≡ length xs) (λ k. (k ≡ position_or_len p xs) × (k < length xs))
    by_cases (inl lt) = result_is (Some (position_or_len p xs)) (e ∙ position_found p xs lt) (refl, lt)
    by_cases (inr ge) = result_is None (e ∙ position_absent p xs ge) (omega (arith, position_or_len-le p xs))
