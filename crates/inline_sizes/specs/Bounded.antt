-- The declared sizes of a node in one axis, as the code holds them.
use Rattle.std.specs.Prelude.{ℤ, pos, ◌-ℤ◌, ◌≤ℤ◌, Option, Some, None}
use Rattle.lunit.specs.Units.{IsUnits}
use Rattle.tree_rules.specs.NodeSizes as rules
use Rattle.inline_sizes.specs.declared.bounds.Bounds.TheInside.{Inside}
use Rattle.inline_sizes.specs.Sums.{IsSum}

-- the sizes of the definitions
abbrev pub bounds_in : Inside → rules.Bounds
bounds_in a = record { inner = a.inner; size = a.size; least = a.least; most = a.most }

abbrev pub inside_of : rules.Bounds → Inside
inside_of b = record { inner = b.inner; size = b.size; least = b.least; most = b.most }

-- a border-box size whose content size is in the range of lengths
pub record IsBorderSize (inner v : ℤ) : Type 0 where
  pub content : IsUnits (v -ℤ inner)
  pub sum : IsSum v

abbrev pub IsBound : ℤ → Option ℤ → Type 0
IsBound inner None = Unit {0}
IsBound inner (Some v) = IsBorderSize inner v

-- Borders and paddings are not below 0, and each declared size is that of a content size in the range of lengths.
pub record AreBounds (a : Inside) : Type 0 where
  pub inner : pos 0 ≤ℤ a.inner
  pub size : IsBound a.inner a.size
  pub least : IsBound a.inner a.least
  pub most : IsBound a.inner a.most
