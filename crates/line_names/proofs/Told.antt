-- Lines told from another one.
use Rattle.std.proofs.Common.{arith, rules, refl, sym, ap, ◌∙◌, ◌≡◌, ℕ, zero, suc, ◌<◌, ℤ, pos, ◌+ℤ◌, ◌-ℤ◌, ◌<ℤ◌, ◌≤ℤ◌, int_lt, Bool, true, false, List, [], ◌∷◌, length, get_or}
use Rattle.std.specs.Prelude.{filter, int_le, if◌then◌else◌}
use Rattle.std.proofs.lemmas.Int.{ints}
use Rattle.std.proofs.lemmas.List.{length-map}
use Rattle.line_names.specs.Levels.{told_from, over}

pub told_count : (base : ℤ) (xs : List ℤ) → length (told_from base xs) ≡ length xs
told_count base xs = length-map xs (λ line. line -ℤ base)

pub told_at : (base : ℤ) (xs : List ℤ) (i : ℕ) (d e : ℤ) → i < length xs → get_or (told_from base xs) i d ≡ get_or xs i e -ℤ base
told_at base [] i d e h = absurd (omega arith)
told_at base (x ∷ xs) zero d e h = refl
told_at base (x ∷ xs) (suc i) d e h = told_at base xs i d e (omega arith)

pub ruleset told_laws = (told_count, told_at)

pub told_again : (base more : ℤ) (xs : List ℤ) → told_from (base +ℤ more) xs ≡ told_from more (told_from base xs)
told_again base more [] = refl
told_again base more (x ∷ xs) =
    let head : x -ℤ (base +ℤ more) ≡ (x -ℤ base) -ℤ more = omega (arith, ints) in
    ap (λ z. z ∷ told_from (base +ℤ more) xs) head ∙ ap (λ zs. ((x -ℤ base) -ℤ more) ∷ zs) (told_again base more xs)

pub told_none : (xs : List ℤ) → told_from (pos 0) xs ≡ xs
told_none [] = refl
told_none (x ∷ xs) =
    let head : x -ℤ pos 0 ≡ x = omega (arith, ints) in
    ap (λ z. z ∷ told_from (pos 0) xs) head ∙ ap (λ zs. x ∷ zs) (told_none xs)

pub told_over : (base : ℤ) (xs ys : List ℤ) → told_from base (over xs ys) ≡ over (told_from base xs) (told_from base ys)
told_over base [] ys = refl
told_over base (x ∷ xs) ys = refl

pub over_nothing : (xs : List ℤ) → over xs [] ≡ xs
over_nothing [] = refl
over_nothing (x ∷ xs) = refl

-- ---- lines in a range, told from another one

le_from : (a b : ℤ) → int_le a b ≡ true → a ≤ℤ b
le_from a b h = search rules

le_to : (a b : ℤ) → a ≤ℤ b → int_le a b ≡ true
le_to a b h = search rules

le_not : (a b : ℤ) → b <ℤ a → int_le a b ≡ false
le_not a b h = search rules

not_le : (a b : ℤ) → int_le a b ≡ false → b <ℤ a
not_le a b h = search rules

lt_from : (a b : ℤ) → int_lt a b ≡ true → a <ℤ b
lt_from a b h = search rules

lt_to : (a b : ℤ) → a <ℤ b → int_lt a b ≡ true
lt_to a b h = search rules

lt_not : (a b : ℤ) → b ≤ℤ a → int_lt a b ≡ false
lt_not a b h = search rules

le_moved : (a b c d k : ℤ) → a ≡ c +ℤ k → b ≡ d +ℤ k → int_le a b ≡ int_le c d
le_moved a b c d k e f = by (int_le a b) refl
  where
    by : (t : Bool) → int_le a b ≡ t → int_le a b ≡ int_le c d
    by true h = h ∙ sym (le_to c d (omega (arith, ints, e, f, le_from a b h)))
    by false h = h ∙ sym (le_not c d (omega (arith, ints, e, f, not_le a b h)))

lt_moved : (a b c d k : ℤ) → a ≡ (c +ℤ k) +ℤ pos 1 → b ≡ d +ℤ k → int_le a b ≡ int_lt c d
lt_moved a b c d k e f = by (int_le a b) refl
  where
    by : (t : Bool) → int_le a b ≡ t → int_le a b ≡ int_lt c d
    by true h = h ∙ sym (lt_to c d (omega (arith, ints, e, f, le_from a b h)))
    by false h = h ∙ sym (lt_not c d (omega (arith, ints, e, f, not_le a b h)))

told_pick : (held : Bool) (base x : ℤ) (more : List ℤ) → told_from base (if held then x ∷ more else more) ≡ (if held then (x -ℤ base) ∷ told_from base more else told_from base more)
told_pick true base x more = refl
told_pick false base x more = refl

told_filter : (p q : ℤ → Bool) (base : ℤ) (xs : List ℤ) → ((x : ℤ) → p x ≡ q (x -ℤ base)) → told_from base (filter p xs) ≡ filter q (told_from base xs)
told_filter p q base [] h = refl
told_filter p q base (x ∷ xs) h =
    told_pick (p x) base x (filter p xs)
    ∙ ap (λ b. if b then (x -ℤ base) ∷ told_from base (filter p xs) else told_from base (filter p xs)) (h x)
    ∙ ap (λ ls. if q (x -ℤ base) then (x -ℤ base) ∷ ls else ls) (told_filter p q base xs h)

pub told_on : (base : ℤ) (xs : List ℤ) (line z : ℤ) → z ≡ line +ℤ base → told_from base (filter (λ l. int_le z l) xs) ≡ filter (λ l. int_le line l) (told_from base xs)
told_on base xs line z e = told_filter (λ l. int_le z l) (λ l. int_le line l) base xs (λ x. le_moved z x line (x -ℤ base) base e (omega (arith, ints)))

pub told_back : (base : ℤ) (xs : List ℤ) (line z : ℤ) → z ≡ line +ℤ base → told_from base (filter (λ l. int_le l z) xs) ≡ filter (λ l. int_le l line) (told_from base xs)
told_back base xs line z e = told_filter (λ l. int_le l z) (λ l. int_le l line) base xs (λ x. le_moved x z (x -ℤ base) line base (omega (arith, ints)) e)

pub told_after : (base : ℤ) (xs : List ℤ) (line z : ℤ) → z ≡ (line +ℤ base) +ℤ pos 1 → told_from base (filter (λ l. int_le z l) xs) ≡ filter (λ l. int_lt line l) (told_from base xs)
told_after base xs line z e = told_filter (λ l. int_le z l) (λ l. int_lt line l) base xs (λ x. lt_moved z x line (x -ℤ base) base e (omega (arith, ints)))

pub told_before : (base : ℤ) (xs : List ℤ) (line z : ℤ) → z ≡ (line +ℤ base) -ℤ pos 1 → told_from base (filter (λ l. int_le l z) xs) ≡ filter (λ l. int_lt l line) (told_from base xs)
told_before base xs line z e = told_filter (λ l. int_le l z) (λ l. int_lt l line) base xs (λ x. lt_moved x z (x -ℤ base) line (base -ℤ pos 1) (omega (arith, ints)) (omega (arith, ints, e)))
