-- Parts of a space.
use Rattle.std.specs.Prelude.{ℤ, pos, ◌≤ℤ◌, ◌⊎◌}

-- between nothing and the space, on its side of 0
abbrev pub IsPart : ℤ → ℤ → Type 0
IsPart space z = ((pos 0 ≤ℤ z) × (z ≤ℤ space)) ⊎ ((space ≤ℤ z) × (z ≤ℤ pos 0))
