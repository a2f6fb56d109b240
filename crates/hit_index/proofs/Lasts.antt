-- The last of the numbers that pass a test, looked for from the end.
use Rattle.std.proofs.Common.{arith, refl, sym, ap, ◌∙◌, ◌≡◌, ℕ, ◌+◌, ◌*◌, ◌<◌, ◌≤◌, Bool, true, false, List, [], ◌∷◌, ◌++◌, length, take, drop, get_or}
use Rattle.std.specs.Prelude.{filter, Option, Some, None, if◌then◌else◌}
use Rattle.std.specs.List.{last_or}
use Rattle.std.proofs.lemmas.List.{append-nil, drop_all, drop-drop, drop_more, take-append-drop}
use Rattle.std.proofs.lemmas.List.Elements.{filter-append}

-- ---- the last item

pub last_or-append : (o : Option ℕ) (xs ys : List ℕ) → last_or o (xs ++ ys) ≡ last_or (last_or o xs) ys
last_or-append o [] ys = refl
last_or-append o (x ∷ xs) ys = last_or-append (Some x) xs ys

some_last : (x : ℕ) (xs : List ℕ) → last_or (Some x) xs ≡ None → ⊥
some_last x [] h = absurd (cc)
some_last x (y ∷ ys) h = some_last y ys h

pub none_left : (xs : List ℕ) → last_or None xs ≡ None → xs ≡ []
none_left [] h = refl
none_left (x ∷ xs) h = absurd (some_last x xs h)

whatever_before : (o : Option ℕ) (xs : List ℕ) (k : ℕ) → last_or None xs ≡ Some k → last_or o xs ≡ Some k
whatever_before o [] k h = absurd (cc)
whatever_before o (x ∷ xs) k h = h

-- ---- one by one from the end

filter_from : (p : ℕ → Bool) (numbers : List ℕ) (i number : ℕ) → i < length numbers → number ≡ get_or numbers i 0 → filter p (drop i numbers) ≡ (if p number then number ∷ filter p (drop (i + 1) numbers) else filter p (drop (i + 1) numbers))
filter_from p numbers i number h e = ap (filter p) (drop_more numbers i 0 h) ∙ ap (λ n. filter p (n ∷ drop (i + 1) numbers)) (sym e)

split_at : (p : ℕ → Bool) (numbers : List ℕ) (i : ℕ) → filter p numbers ≡ filter p (take i numbers) ++ filter p (drop i numbers)
split_at p numbers i = ap (filter p) (sym (take-append-drop i numbers)) ∙ filter-append p (take i numbers) (drop i numbers)

-- a number that passes, where none after it does
pub last_is : (p : ℕ → Bool) (numbers : List ℕ) (i next number : ℕ) (passes : Bool) → i < length numbers → next ≡ i + 1 → number ≡ get_or numbers i 0 → passes ≡ true → passes ≡ p number → filter p (drop next numbers) ≡ [] → Some number ≡ last_or None (filter p numbers)
last_is p numbers i next number passes h n e t is none =
    let after : filter p (drop (i + 1) numbers) ≡ [] = ap (λ m. filter p (drop m numbers)) (sym n) ∙ none in
    let here : filter p (drop i numbers) ≡ number ∷ [] = filter_from p numbers i number h e ∙ ap (λ b. if b then number ∷ filter p (drop (i + 1) numbers) else filter p (drop (i + 1) numbers)) (sym is ∙ t) ∙ ap (λ ns. number ∷ ns) after in
    sym (ap (last_or None) (split_at p numbers i ∙ ap (λ ns. filter p (take i numbers) ++ ns) here) ∙ last_or-append None (filter p (take i numbers)) (number ∷ []))

-- one that does not
pub none_more : (p : ℕ → Bool) (numbers : List ℕ) (i next number : ℕ) (passes : Bool) → i < length numbers → next ≡ i + 1 → number ≡ get_or numbers i 0 → passes ≡ false → passes ≡ p number → filter p (drop next numbers) ≡ [] → filter p (drop i numbers) ≡ []
none_more p numbers i next number passes h n e f is none = filter_from p numbers i number h e ∙ ap (λ b. if b then number ∷ filter p (drop (i + 1) numbers) else filter p (drop (i + 1) numbers)) (sym is ∙ f) ∙ ap (λ m. filter p (drop m numbers)) (sym n) ∙ none

-- none passes
pub last_none : (p : ℕ → Bool) (numbers : List ℕ) (i : ℕ) → i ≡ 0 → filter p (drop i numbers) ≡ [] → None ≡ last_or None (filter p numbers)
last_none p numbers i z h = sym (ap (last_or None) (ap (λ n. filter p (drop n numbers)) (sym z) ∙ h))

pub none_past : (p : ℕ → Bool) (numbers : List ℕ) (i : ℕ) → length numbers ≤ i → filter p (drop i numbers) ≡ []
none_past p numbers i h = ap (filter p) (drop_all i numbers h)

pub ruleset one_by_one = (last_is, none_more, last_none, none_past)

-- ---- run by run from the end

run_split : (p : ℕ → Bool) (numbers : List ℕ) (start : ℕ) → filter p (drop start numbers) ≡ filter p (take 64 (drop start numbers)) ++ filter p (drop (start + 64) numbers)
run_split p numbers start = split_at p (drop start numbers) 64 ∙ ap (λ ns. filter p (take 64 (drop start numbers)) ++ filter p ns) (drop-drop 64 start numbers)

run_before : (p : ℕ → Bool) (numbers : List ℕ) (run next : ℕ) → next ≡ run + 1 → filter p (drop (next * 64) numbers) ≡ [] → filter p (drop (run * 64) numbers) ≡ filter p (take 64 (drop (run * 64) numbers))
run_before p numbers run next n none =
    let place : run * 64 + 64 ≡ next * 64 = omega arith in
    run_split p numbers (run * 64) ∙ ap (λ m. filter p (take 64 (drop (run * 64) numbers)) ++ filter p (drop m numbers)) place ∙ ap (λ ns. filter p (take 64 (drop (run * 64) numbers)) ++ ns) none ∙ append-nil (filter p (take 64 (drop (run * 64) numbers)))

-- a number of this run passes, where none of a later one does
pub run_last : (p : ℕ → Bool) (numbers part : List ℕ) (run next number : ℕ) (found : Option ℕ) → next ≡ run + 1 → part ≡ take 64 (drop (run * 64) numbers) → found ≡ Some number → found ≡ last_or None (filter p part) → filter p (drop (next * 64) numbers) ≡ [] →
    Some number ≡ last_or None (filter p numbers)
run_last p numbers part run next number found n e s is none =
    let rest : filter p (drop (run * 64) numbers) ≡ filter p part = run_before p numbers run next n none ∙ ap (filter p) (sym e) in
    sym (ap (last_or None) (split_at p numbers (run * 64) ∙ ap (λ ns. filter p (take (run * 64) numbers) ++ ns) rest) ∙ last_or-append None (filter p (take (run * 64) numbers)) (filter p part) ∙ whatever_before (last_or None (filter p (take (run * 64) numbers))) (filter p part) number (sym is ∙ s))

-- none of this run passes either
pub run_none : (p : ℕ → Bool) (numbers part : List ℕ) (run next : ℕ) (found : Option ℕ) → next ≡ run + 1 → part ≡ take 64 (drop (run * 64) numbers) → found ≡ None → found ≡ last_or None (filter p part) → filter p (drop (next * 64) numbers) ≡ [] → filter p (drop (run * 64) numbers) ≡ []
run_none p numbers part run next found n e s is none = run_before p numbers run next n none ∙ ap (filter p) (sym e) ∙ none_left (filter p part) (sym is ∙ s)

pub run_passed : (p : ℕ → Bool) (numbers : List ℕ) (run next : ℕ) → next ≡ run + 1 → filter p (take 64 (drop (run * 64) numbers)) ≡ [] → filter p (drop (next * 64) numbers) ≡ [] → filter p (drop (run * 64) numbers) ≡ []
run_passed p numbers run next n here none = run_before p numbers run next n none ∙ here

pub ruleset run_by_run = (run_last, run_none, run_passed, last_none, none_past)
