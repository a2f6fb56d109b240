-- One more element is written at the place behind those that were.
use Rattle.std.proofs.Common.{◌≡◌, ℕ, zero, suc, ◌+◌, ◌<◌, List, [], ◌∷◌, ◌++◌, length, map, take, drop, set, get_or, refl, ap, arith}

pub one_more : {A B : Type 0} (f : A → B) (xs : List A) (room : List B) (i : ℕ) (x : A) → i < length xs → i < length room
    → set (take i (map f xs) ++ drop i room) i (f (get_or xs i x)) ≡ take (suc i) (map f xs) ++ drop (suc i) room
one_more f [] room i x within fits = let no : ⊥ = omega arith in elim no [ ]
one_more f (y ∷ xs) [] i x within fits = let no : ⊥ = omega arith in elim no [ ]
one_more f (y ∷ xs) (r ∷ room) zero x within fits = refl
one_more f (y ∷ xs) (r ∷ room) (suc i) x within fits =
    ap (λ zs. f y ∷ zs) (one_more f xs room i x (omega arith) (omega arith))
