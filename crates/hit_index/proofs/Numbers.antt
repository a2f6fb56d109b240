-- The numbers of the boxes that pass a test.
use Rattle.std.proofs.Common.{arith, sym, ap, subst, ◌∙◌, ◌≡◌, ℕ, ◌+◌, ◌<◌, Bool, true, false, List, [], ◌∷◌, ◌++◌, length, take, get_or, slice_set}
use Rattle.std.specs.Prelude.{if◌then◌else◌}
use Rattle.std.specs.List.{All}
use Rattle.std.proofs.lemmas.Bool.{cond_both}
use Rattle.std.proofs.lemmas.List.Elements.{All-nil, All-cons}
use Rattle.std.proofs.lemmas.List.{append-nil, take_more, length-take-le, set-get_or}
use Rattle.lunit.specs.declared.geometry.Rect.{Rect}
use Rattle.hit_index.specs.Hits.{numbers_from}
use Rattle.hit_index.specs.Strips.{one_if}

-- ---- joined lists

chosen : (b : Bool) (k : ℕ) (all front back : List ℕ) → all ≡ front ++ back → (if b then k ∷ all else all) ≡ (if b then k ∷ front else front) ++ back
chosen true k all front back e = ap (λ ns. k ∷ ns) e
chosen false k all front back e = e

numbers_from-append : (k : ℕ) (p : Rect → Bool) (xs ys : List Rect) → numbers_from k p (xs ++ ys) ≡ numbers_from k p xs ++ numbers_from (k + length xs) p ys
numbers_from-append k p [] ys = ap (λ n. numbers_from n p ys) (omega arith)
numbers_from-append k p (x ∷ xs) ys =
    let count : k + 1 + length xs ≡ k + length (x ∷ xs) = omega arith in
    chosen (p x) k (numbers_from (k + 1) p (xs ++ ys)) (numbers_from (k + 1) p xs) (numbers_from (k + length (x ∷ xs)) p ys) (numbers_from-append (k + 1) p xs ys ∙ ap (λ n. numbers_from (k + 1) p xs ++ numbers_from n p ys) count)

-- one box more
pub numbers_next : (p : Rect → Bool) (boxes : List Rect) (i : ℕ) (box : Rect) → i < length boxes → box ≡ get_or boxes i box → numbers_from 0 p (take (i + 1) boxes) ≡ numbers_from 0 p (take i boxes) ++ one_if (p box) i
numbers_next p boxes i box h e =
    ap (λ xs. numbers_from 0 p xs) (take_more boxes i box h ∙ ap (λ b. take i boxes ++ b ∷ []) (sym e))
    ∙ numbers_from-append 0 p (take i boxes) (box ∷ [])
    ∙ ap (λ n. numbers_from 0 p (take i boxes) ++ numbers_from n p (box ∷ [])) count
  where
    count : 0 + length (take i boxes) ≡ i
    count = omega (arith, length-take-le i boxes (omega (arith, h)))

-- ---- a strip that stays

pub unchanged : (old : List (List ℕ)) (strip : ℕ) (wanted : Bool) (number : ℕ) → wanted ≡ false → old ≡ slice_set old strip (get_or old strip [] ++ one_if wanted number)
unchanged old strip wanted number h = sym (ap (λ b. slice_set old strip (get_or old strip [] ++ one_if b number)) h ∙ ap (λ ns. slice_set old strip ns) (append-nil (get_or old strip [])) ∙ set-get_or old strip [])

-- ---- where they lie

-- each is the number of a box
pub numbers_below : (k : ℕ) (p : Rect → Bool) (boxes : List Rect) → All (λ number. number < k + length boxes) (numbers_from k p boxes)
numbers_below k p [] = All-nil (λ number. number < k + 0)
numbers_below k p (box ∷ boxes) =
    let count : k + 1 + length boxes ≡ k + length (box ∷ boxes) = omega arith in
    let rest : All (λ number. number < k + length (box ∷ boxes)) (numbers_from (k + 1) p boxes) = subst (λ (n : ℕ). All (λ number. number < n) (numbers_from (k + 1) p boxes)) count (numbers_below (k + 1) p boxes) in
    cond_both (p box) (k ∷ numbers_from (k + 1) p boxes) (numbers_from (k + 1) p boxes) (λ ns. All (λ number. number < k + length (box ∷ boxes)) ns) (λ _. All-cons (λ number. number < k + length (box ∷ boxes)) k (numbers_from (k + 1) p boxes) (omega arith) rest) (λ _. rest)
