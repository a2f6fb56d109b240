-- What the lower levels of a chain of subgrids make of the margin above them.
use Rattle.std.specs.Prelude.{ℤ, ◌≤ℤ◌, ◌+ℤ◌, ◌≡◌}
use Rattle.std.specs.Int.{int_max, int_min}
use Rattle.lunit.specs.Units.{IsUnits, clamp}
use Rattle.subgrid_view.specs.declared.margins.Limited.{Limited}

-- the sum with the margin of the levels above, as it is limited
abbrev pub given : Limited → ℤ → ℤ
given s outer = int_max s.least (int_min s.most (s.sum +ℤ outer))

-- the limits are lengths and in order
pub record IsOrdered (s : Limited) : Type 0 where
  pub least : IsUnits s.least
  pub most : IsUnits s.most
  pub order : s.least ≤ℤ s.most

-- One level more: what the levels above it give is first limited with its own margin.
abbrev pub IsWithLevel : Limited → ℤ → Limited → Type 0
IsWithLevel s margin next = (outer : ℤ) → given next outer ≡ given s (clamp (margin +ℤ outer))
