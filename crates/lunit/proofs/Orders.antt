-- The order of two texts, byte by byte.
use Rattle.std.proofs.Common.{◌≡◌, refl, ap, sym, ◌∙◌, ℕ, zero, suc, ◌+◌, ◌<◌, ◌≤◌, false, List, [], ◌∷◌, length, drop, slice_index_or, nat_eq, min, nat_cmp, Ordering, Less, Equal, Greater, zero-lt-suc, arith}
use Rattle.std.proofs.lemmas.Bool.{eqb-false}
use Rattle.std.proofs.lemmas.Cmp.{ranked}
use Rattle.std.proofs.lemmas.List.{drop_more}
use Rattle.std.specs.Cmp.{nat_cmp_is}
use Rattle.std.specs.Cmp.Lexicographic.{slice_cmp}
use Rattle.std.specs.Ordering.{ordering_then}

-- ---- at bytes of one place

from_here : (a b : List ℕ) (i x y : ℕ) → i < length a → i < length b → x ≡ slice_index_or a i x → y ≡ slice_index_or b i y →
    slice_cmp nat_cmp (drop i a) (drop i b) ≡ ordering_then (nat_cmp x y) (slice_cmp nat_cmp (drop (i + 1) a) (drop (i + 1) b))
from_here a b i x y l m at_a at_b =
    ap (λ (z : List ℕ). slice_cmp nat_cmp z (drop i b)) (drop_more a i x l ∙ ap (λ (n : ℕ). n ∷ drop (i + 1) a) (sym at_a))
    ∙ ap (λ (z : List ℕ). slice_cmp nat_cmp (x ∷ drop (i + 1) a) z) (drop_more b i y m ∙ ap (λ (n : ℕ). n ∷ drop (i + 1) b) (sym at_b))

pub order_next : (a b : List ℕ) (i x y : ℕ) → i < length a → i < length b → x ≡ slice_index_or a i x → y ≡ slice_index_or b i y → x ≡ y →
    slice_cmp nat_cmp (drop i a) (drop i b) ≡ slice_cmp nat_cmp a b → slice_cmp nat_cmp (drop (i + 1) a) (drop (i + 1) b) ≡ slice_cmp nat_cmp a b
order_next a b i x y l m at_a at_b e h =
    ap (λ (o : Ordering). ordering_then o (slice_cmp nat_cmp (drop (i + 1) a) (drop (i + 1) b))) (nat_cmp_is x y Equal e) ∙ sym (from_here a b i x y l m at_a at_b) ∙ h

decided : (x y : ℕ) (o rest : Ordering) → o ≡ nat_cmp x y → nat_eq x y ≡ false → ordering_then o rest ≡ o
decided x y Less rest f e = refl
decided x y Equal rest f e = absurd (eqb-false x y e (ranked x y Equal f))
decided x y Greater rest f e = refl

pub order_found : (a b : List ℕ) (i x y : ℕ) (r : Ordering) → i < length a → i < length b → x ≡ slice_index_or a i x → y ≡ slice_index_or b i y →
    nat_eq x y ≡ false → r ≡ nat_cmp x y → slice_cmp nat_cmp (drop i a) (drop i b) ≡ slice_cmp nat_cmp a b → r ≡ slice_cmp nat_cmp a b
order_found a b i x y r l m at_a at_b e f h =
    f ∙ sym (decided x y (nat_cmp x y) (slice_cmp nat_cmp (drop (i + 1) a) (drop (i + 1) b)) refl e) ∙ sym (from_here a b i x y l m at_a at_b) ∙ h

-- ---- where one text has ended

one_less : (m n : ℕ) (r : Ordering) → r ≡ nat_cmp m n → r ≡ nat_cmp (suc m) (suc n)
one_less m n Less e = let l : m < n = ranked m n Less e in nat_cmp_is (suc m) (suc n) Less (omega arith)
one_less m n Equal e = let l : m ≡ n = ranked m n Equal e in nat_cmp_is (suc m) (suc n) Equal (omega arith)
one_less m n Greater e = let l : n < m = ranked m n Greater e in nat_cmp_is (suc m) (suc n) Greater (omega arith)

ends : (a b : List ℕ) (i : ℕ) → i ≡ min (length a) (length b) → slice_cmp nat_cmp (drop i a) (drop i b) ≡ nat_cmp (length a) (length b)
ends [] [] zero e = refl
ends [] [] (suc i) e = refl
ends [] (y ∷ b) zero e = nat_cmp_is 0 (suc (length b)) Less (zero-lt-suc (length b))
ends [] (y ∷ b) (suc i) e = let f : suc i ≡ min 0 (suc (length b)) = e in absurd (omega arith)
ends (x ∷ a) [] zero e = nat_cmp_is (suc (length a)) 0 Greater (zero-lt-suc (length a))
ends (x ∷ a) [] (suc i) e = let f : suc i ≡ min (suc (length a)) 0 = e in absurd (omega arith)
ends (x ∷ a) (y ∷ b) zero e = let f : 0 ≡ min (suc (length a)) (suc (length b)) = e in absurd (omega arith)
ends (x ∷ a) (y ∷ b) (suc i) e =
    let f : suc i ≡ min (suc (length a)) (suc (length b)) = e in
    ends a b i (omega arith) ∙ one_less (length a) (length b) (nat_cmp (length a) (length b)) refl

pub order_ended : (a b : List ℕ) (i n : ℕ) (r : Ordering) → n ≡ i → i ≡ min (length a) (length b) → r ≡ nat_cmp (length a) (length b) →
    slice_cmp nat_cmp (drop n a) (drop n b) ≡ slice_cmp nat_cmp a b → r ≡ slice_cmp nat_cmp a b
order_ended a b i n r s e f h = f ∙ sym (ends a b n (s ∙ e)) ∙ h

-- ---- where both go on

pub order_past : (a b p q : List ℕ) (i n : ℕ) (r : Ordering) → n ≡ i → p ≡ drop i a → q ≡ drop i b → r ≡ slice_cmp nat_cmp p q →
    slice_cmp nat_cmp (drop n a) (drop n b) ≡ slice_cmp nat_cmp a b → r ≡ slice_cmp nat_cmp a b
order_past a b p q i n r s at_a at_b f h =
    f ∙ ap (λ (z : List ℕ). slice_cmp nat_cmp z q) at_a ∙ ap (slice_cmp nat_cmp (drop i a)) at_b ∙ ap (λ (k : ℕ). slice_cmp nat_cmp (drop k a) (drop k b)) (sym s) ∙ h

pub ruleset orders = (order_next, order_found, order_ended, order_past)
