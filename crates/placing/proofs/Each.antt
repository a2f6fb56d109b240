-- A fact of each item of a list, by the list.
use Rattle.std.proofs.Common.{arith, ℕ, zero, suc, ◌<◌, List, [], ◌∷◌, length, map}
use Rattle.std.specs.Prelude.{All, slice_index_or}

abbrev pub Each : {A : Type 0} → (A → Type 0) → List A → Type 0
Each P [] = Unit {0}
Each P (x ∷ rest) = P x × Each P rest

pub each_at : {A : Type 0} (P : A → Type 0) (xs : List A) → Each P xs → (k : ℕ) (d : A) → k < length xs → P (slice_index_or xs k d)
each_at P [] h k d l = absurd (omega arith)
each_at P (x ∷ rest) h zero d l = h.0
each_at P (x ∷ rest) h (suc k) d l = each_at P rest h.1 k d (omega arith)

pub all_each : {A : Type 0} (P : A → Type 0) (xs : List A) → Each P xs → All P xs
all_each P xs h k d l = each_at P xs h k d l

pub each_map : {A B : Type 0} (f : A → B) (P : B → Type 0) (xs : List A) → Each (λ x. P (f x)) xs → Each P (map f xs)
each_map f P [] h = tt
each_map f P (x ∷ rest) h = (h.0, each_map f P rest h.1)
