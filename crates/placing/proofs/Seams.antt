-- Lines that are joined at their seams.
use Rattle.std.proofs.Common.{arith, refl, sym, ap, ◌∙◌, ◌≡◌, ℕ, zero, suc, ◌-◌, ◌<◌, List, [], ◌∷◌, ◌++◌, length, take, append_assoc}
use Rattle.tree_rules.specs.Templates.{Names, repeated_names, seamed}
use Rattle.placing.specs.Written.{names_by}

pub seamed_none : (xs : List Names) → seamed xs [] ≡ xs
seamed_none [] = refl
seamed_none (x ∷ []) = refl
seamed_none (x ∷ z ∷ xs) = ap (λ (r : List Names). x ∷ r) (seamed_none (z ∷ xs))

pub seamed_empty : (xs ys : List Names) → length ys ≡ 0 → xs ≡ seamed xs ys
seamed_empty xs [] h = sym (seamed_none xs)
seamed_empty xs (y ∷ ys) h = absurd (omega arith)

-- a line meets the last one
pub seamed_last : (xs : List Names) (x y : Names) → seamed (xs ++ x ∷ []) (y ∷ []) ≡ xs ++ (x ++ y) ∷ []
seamed_last [] x y = refl
seamed_last (z ∷ []) x y = refl
seamed_last (z ∷ w ∷ xs) x y = ap (λ (r : List Names). z ∷ r) (seamed_last (w ∷ xs) x y)

pub meets_last : (all xs : List Names) (x y : Names) → all ≡ xs ++ x ∷ [] → seamed all (y ∷ []) ≡ xs ++ (x ++ y) ∷ []
meets_last all xs x y e = ap (λ (r : List Names). seamed r (y ∷ [])) e ∙ seamed_last xs x y

-- the lines after the first one follow
pub seamed_rest : (xs : List Names) (y : Names) (ys : List Names) → seamed xs (y ∷ ys) ≡ seamed xs (y ∷ []) ++ ys
seamed_rest [] y ys = refl
seamed_rest (x ∷ []) y ys = refl
seamed_rest (x ∷ z ∷ xs) y ys = ap (λ (r : List Names). x ∷ r) (seamed_rest (z ∷ xs) y ys)

seamed_step : (x z : Names) (xs ys more : List Names) → seamed (x ∷ seamed (z ∷ xs) ys) more ≡ x ∷ seamed (seamed (z ∷ xs) ys) more
seamed_step x z [] [] more = refl
seamed_step x z [] (y ∷ ys) more = refl
seamed_step x z (w ∷ xs) ys more = refl

pub seamed_assoc : (xs ys more : List Names) → seamed (seamed xs ys) more ≡ seamed xs (seamed ys more)
seamed_assoc [] ys more = refl
seamed_assoc (x ∷ []) [] more = refl
seamed_assoc (x ∷ []) (y ∷ []) [] = refl
seamed_assoc (x ∷ []) (y ∷ []) (m ∷ more) = ap (λ (n : Names). n ∷ more) (append_assoc x y m)
seamed_assoc (x ∷ []) (y ∷ w ∷ ys) more = refl
seamed_assoc (x ∷ z ∷ xs) ys more = seamed_step x z xs ys more ∙ ap (λ (r : List Names). x ∷ r) (seamed_assoc (z ∷ xs) ys more)

-- what follows does not change the lines before the last
take_seamed : (n : ℕ) (xs ys : List Names) → n < length xs → take n (seamed xs ys) ≡ take n xs
take_seamed n [] ys h = absurd (omega arith)
take_seamed zero (x ∷ xs) ys h = refl
take_seamed (suc n) (x ∷ []) ys h = absurd (omega arith)
take_seamed (suc n) (x ∷ z ∷ xs) ys h = ap (λ (r : List Names). x ∷ r) (take_seamed n (z ∷ xs) ys (omega arith))

-- ---- repetitions

repeated_one : (names : List Names) (left next : ℕ) → 0 < left → next ≡ left - 1 → repeated_names left names ≡ seamed names (repeated_names next names)
repeated_one names zero next h e = absurd (omega arith)
repeated_one names (suc left) next h e = let n : next ≡ left = omega (arith, e) in ap (λ (k : ℕ). seamed names (repeated_names k names)) (sym n)

pub repeat_next : (all now after names : List Names) (count left next : ℕ) → 0 < left → next ≡ left - 1 → after ≡ seamed now names → seamed now (repeated_names left names) ≡ seamed all (repeated_names count names) → seamed after (repeated_names next names) ≡ seamed all (repeated_names count names)
repeat_next all now after names count left next h e f inv =
    ap (λ (r : List Names). seamed r (repeated_names next names)) f
    ∙ seamed_assoc now names (repeated_names next names)
    ∙ ap (seamed now) (sym (repeated_one names left next h e))
    ∙ inv

-- none is left
pub repeat_done : (all now names : List Names) (count left : ℕ) (more : List Names) → left ≡ 0 → seamed now (repeated_names left names) ≡ seamed all (repeated_names count names) → take 10001 (seamed now more) ≡ take 10001 (seamed (seamed all (repeated_names count names)) more)
repeat_done all now names count left more e inv =
    ap (λ (r : List Names). take 10001 (seamed r more)) (sym (seamed_none now) ∙ ap (λ (k : ℕ). seamed now (repeated_names k names)) (sym e) ∙ inv)

-- more lines are there than are kept
pub repeat_full : (all now names : List Names) (count left : ℕ) (more : List Names) → 10001 < length now → seamed now (repeated_names left names) ≡ seamed all (repeated_names count names) → take 10001 (seamed now more) ≡ take 10001 (seamed (seamed all (repeated_names count names)) more)
repeat_full all now names count left more h inv =
    take_seamed 10001 now more h
    ∙ sym (take_seamed 10001 now (seamed (repeated_names left names) more) h)
    ∙ ap (take 10001) (sym (seamed_assoc now (repeated_names left names) more))
    ∙ ap (λ (r : List Names). take 10001 (seamed r more)) inv

-- the three parts joined one after another
pub names_joined : (before repeated after first second third : List Names) (count : ℕ) → first ≡ seamed [] before → ((more : List Names) → take 10001 (seamed second more) ≡ take 10001 (seamed (seamed first (repeated_names count repeated)) more)) → third ≡ seamed second after →
    take 10001 third ≡ names_by before repeated count after
names_joined before repeated after first second third count e f g =
    ap (take 10001) g
    ∙ f after
    ∙ ap (λ (r : List Names). take 10001 (seamed (seamed r (repeated_names count repeated)) after)) e
    ∙ ap (take 10001) (seamed_assoc before (repeated_names count repeated) after)

pub ruleset meeting = (meets_last)

pub ruleset joining = (seamed_empty, seamed_rest)

pub ruleset repeating = (repeat_full)
