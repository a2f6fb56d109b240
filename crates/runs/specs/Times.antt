-- Lists of parts that stand many times.
use Rattle.std.specs.Prelude.{◌≡◌, ℕ, zero, suc, ◌≤◌, List, [], ◌∷◌, ◌++◌, length}

-- the list, so many times one after another
abbrev pub times : {A : Type 0} → ℕ → List A → List A
times zero xs = []
times (suc n) xs = xs ++ times n xs

-- the list of which these are the parts, each with how often it stands
abbrev pub items_of : {A : Type 0} → List (ℕ × List A) → List A
items_of [] = []
items_of (run ∷ runs) = times run.0 run.1 ++ items_of runs

-- so many items are in the list, and at most 2^32
pub record IsCounted {A : Type 0} (count : ℕ) (items : List A) : Type 0 where
  pub all : count ≡ length items
  pub few : count ≤ 4294967296
