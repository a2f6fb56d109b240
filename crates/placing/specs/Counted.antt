-- The declared sizes of a node in one axis, as the code counts repetitions against them.
use Rattle.std.specs.Prelude.{ℤ, pos, ◌≤ℤ◌, Option, Some, None}
use Rattle.tree_rules.specs.NodeSizes.{Bounds}
use Rattle.tree_rules.specs.declared.query.Given.{Given}
use Rattle.tree_rules.specs.declared.query.Given.TheVariants as given

-- two borders or paddings together
pub record IsTwoEdges (x : ℤ) : Type 0 where
  pub low : pos 0 ≤ℤ x
  pub high : x ≤ℤ pos 134217728

-- four of them
pub record IsInner (x : ℤ) : Type 0 where
  pub low : pos 0 ≤ℤ x
  pub high : x ≤ℤ pos 268435456

-- no border-box size, or one that borders and paddings fit into
abbrev pub IsAround : ℤ → Option ℤ → Type 0
IsAround inner None = Unit {0}
IsAround inner (Some x) = inner ≤ℤ x

-- the border-box sizes
abbrev pub bounds_by : ℤ → Option ℤ → Option ℤ → Option ℤ → Bounds
bounds_by inner size least most = record { inner = inner; size = size; least = least; most = most }

-- a content width that is given is not below 0
abbrev pub IsGivenSize : Given → Type 0
IsGivenSize (given.Size x) = pos 0 ≤ℤ x
IsGivenSize (given.Tracks edges gap) = Unit {0}
IsGivenSize given.None = Unit {0}
