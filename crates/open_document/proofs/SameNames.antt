-- Texts of one length, byte by byte.
use Rattle.std.proofs.Common.{◌≡◌, refl, ap, sym, ◌∙◌, ℕ, zero, suc, ◌+◌, ◌<◌, ◌≤◌, Bool, true, false, ◌&&◌, List, [], ◌∷◌, ◌++◌, length, take, Some, slice_get, slice_index_or, nat_eq, arith, take_all}
use Rattle.std.proofs.lemmas.Option.{slice_get-get_or}
use Rattle.std.specs.Str.{bytes_eq}
use Rattle.open_document.proofs.Naming.{itself, same_some, some_is_none, take_next}

and_none : (a : Bool) → (a && false) ≡ false
and_none true = refl
and_none false = refl

differ_at : (a b : List ℕ) (i x y : ℕ) → slice_get a i ≡ Some x → slice_get b i ≡ Some y → nat_eq x y ≡ false → bytes_eq a b ≡ false
differ_at [] b i x y at_a at_b e = some_is_none x (sym at_a)
differ_at (p ∷ a) [] i x y at_a at_b e = some_is_none y (sym at_b)
differ_at (p ∷ a) (q ∷ b) zero x y at_a at_b e =
    ap (λ (n : ℕ). nat_eq n q && bytes_eq a b) (same_some p x at_a) ∙ ap (λ (n : ℕ). nat_eq x n && bytes_eq a b) (same_some q y at_b) ∙ ap (λ (t : Bool). t && bytes_eq a b) e
differ_at (p ∷ a) (q ∷ b) (suc i) x y at_a at_b e = ap (λ (t : Bool). nat_eq p q && t) (differ_at a b i x y at_a at_b e) ∙ and_none (nat_eq p q)

pub bytes_differ : (a b : List ℕ) (i x y : ℕ) → i < length a → i < length b → x ≡ slice_index_or a i x → y ≡ slice_index_or b i y → nat_eq x y ≡ false → false ≡ bytes_eq a b
bytes_differ a b i x y l m at_a at_b e = sym (differ_at a b i x y (slice_get-get_or a i x l ∙ ap Some (sym at_a)) (slice_get-get_or b i y m ∙ ap Some (sym at_b)) e)

pub bytes_next : (a b : List ℕ) (i x y : ℕ) → i < length a → i < length b → x ≡ slice_index_or a i x → y ≡ slice_index_or b i y → x ≡ y → take i a ≡ take i b → take (i + 1) a ≡ take (i + 1) b
bytes_next a b i x y l m at_a at_b e t =
    take_next a i x (slice_get-get_or a i x l ∙ ap Some (sym at_a)) ∙ ap (λ (z : List ℕ). z ++ x ∷ []) t ∙ ap (λ (n : ℕ). take i b ++ n ∷ []) e
    ∙ sym (take_next b i y (slice_get-get_or b i y m ∙ ap Some (sym at_b)))

pub bytes_same : (a b : List ℕ) (i : ℕ) → length a ≤ i → length a ≡ length b → take i a ≡ take i b → true ≡ bytes_eq a b
bytes_same a b i l e t = sym (itself a b (sym (take_all i a (omega (arith, l))) ∙ t ∙ take_all i b (omega (arith, l, e))))

pub ruleset bytes_laws = (bytes_differ, bytes_next, bytes_same)
