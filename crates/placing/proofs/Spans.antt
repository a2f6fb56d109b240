-- Ranges that grow by one span.
use Rattle.std.proofs.Common.{◌≡◌, sym, ap, ◌∙◌, arith, ℕ, ◌+◌, ◌<◌, pos, List, [], ◌∷◌, ◌++◌, length, map, take}
use Rattle.std.specs.Prelude.{get_or}
use Rattle.std.specs.Int.{int_max, int_min}
use Rattle.std.proofs.lemmas.Int.{ints, clamps}
use Rattle.std.proofs.lemmas.List.{map-append, take_more}
use Rattle.lunit.specs.declared.geometry.Span.{Span}
use Rattle.part_rules.specs.Placement.{range_of, with_span}

commute : (a b : Span) → with_span a b ≡ with_span b a
commute a b = λ i. record { start = go i; end = to i }
  where
    go : int_min a.start b.start ≡ int_min b.start a.start
    go = omega (arith, ints, clamps)

    to : int_max a.end b.end ≡ int_max b.end a.end
    to = omega (arith, ints, clamps)

associate : (a b c : Span) → with_span a (with_span b c) ≡ with_span (with_span a b) c
associate a b c = λ i. record { start = go i; end = to i }
  where
    go : int_min a.start (int_min b.start c.start) ≡ int_min (int_min a.start b.start) c.start
    go = omega (arith, ints, clamps)

    to : int_max a.end (int_max b.end c.end) ≡ int_max (int_max a.end b.end) c.end
    to = omega (arith, ints, clamps)

pub range_push : (n : ℕ) (xs : List Span) (s : Span) → range_of n (xs ++ s ∷ []) ≡ with_span (range_of n xs) s
range_push n [] s = commute s (record { start = pos 0; end = pos n })
range_push n (x ∷ xs) s = ap (with_span x) (range_push n xs s) ∙ associate x (range_of n xs) s

pub range_step : {A : Type 0} (n : ℕ) (f : A → Span) (xs : List A) (i : ℕ) (d : A) (old new s : Span) → i < length xs → old ≡ range_of n (map f (take i xs)) → new ≡ with_span old s → s ≡ f (get_or xs i d) → new ≡ range_of n (map f (take (i + 1) xs))
range_step n f xs i d old new s h o e w =
    e
    ∙ (λ j. with_span (o j) (w j))
    ∙ sym (range_push n (map f (take i xs)) (f (get_or xs i d)))
    ∙ ap (range_of n) (sym (map-append f (take i xs) (get_or xs i d ∷ [])))
    ∙ ap (λ l. range_of n (map f l)) (sym (take_more xs i d h))
