-- What the size of an `fr` is found for.
use Rattle.std.specs.Prelude.{ℤ, pos, neg_ℤ, ◌≤ℤ◌, ◌^◌, List, [], ◌∷◌}
use Rattle.lunit.specs.Units.{top}
use Rattle.part_rules.specs.declared.fraction.FrRow.{FrRow}

-- no base size is below zero
abbrev pub HaveBases : List FrRow → Type 0
HaveBases [] = Unit {0}
HaveBases (r ∷ rest) = (pos 0 ≤ℤ r.base) × HaveBases rest

-- a length less gutters
abbrev pub IsSpace : ℤ → Type 0
IsSpace z = (neg_ℤ (pos (2 ^ 100)) ≤ℤ z) × (z ≤ℤ top)
