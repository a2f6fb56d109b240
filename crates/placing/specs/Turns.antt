-- Items back in document order, by their numbers (CSS Grid 2, 6.3).
use Rattle.std.specs.Prelude.{ℕ, ◌+◌, ℤ, pos, List, [], ◌∷◌}
use Rattle.tree_rules.specs.Orders.{sorted_by}

-- pairs of numbers with their places, counted from this one on
abbrev pub pairs_from : ℕ → List ℕ → List (ℕ × ℤ)
pairs_from at [] = []
pairs_from at (n ∷ rest) = (at, pos n) ∷ pairs_from (at + 1) rest

-- the places of numbers, by the numbers
abbrev pub turns : List ℕ → List (ℕ × ℤ)
turns numbers = sorted_by (λ (e : ℕ × ℤ). e.1) (pairs_from 0 numbers)
