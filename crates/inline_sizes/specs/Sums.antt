-- The ranges of numbers on the way to a size.
use Rattle.std.specs.Prelude.{ℤ, pos, neg_ℤ, ◌^◌, ◌≤ℤ◌}

-- a sum of two lengths
abbrev pub IsPair : ℤ → Type 0
IsPair z = (neg_ℤ (pos (2 ^ 31)) ≤ℤ z) × (z ≤ℤ pos (2 ^ 31))

-- a sum of a few lengths
abbrev pub IsSum : ℤ → Type 0
IsSum z = (neg_ℤ (pos (2 ^ 40)) ≤ℤ z) × (z ≤ℤ pos (2 ^ 40))

-- a sum of as many lengths as a list can hold
abbrev pub IsTotal : ℤ → Type 0
IsTotal z = (neg_ℤ (pos (2 ^ 100)) ≤ℤ z) × (z ≤ℤ pos (2 ^ 100))
