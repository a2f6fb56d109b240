-- Lines in order.
use Rattle.std.specs.Prelude.{ℤ, ◌<ℤ◌, List, [], ◌∷◌}
use Rattle.std.specs.List.{AllByRecursion}

-- each line comes after those before it
abbrev pub AreRising : List ℤ → Type 0
AreRising [] = Unit {0}
AreRising (edge ∷ edges) = AllByRecursion (λ later. edge <ℤ later) edges × AreRising edges
