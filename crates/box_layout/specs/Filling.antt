-- A child of a grid that is as long as its area.
use Rattle.std.specs.Prelude.{◌≡◌, ◌&&◌, ℤ, pos, Bool}
use Rattle.std.specs.Ordering.{int_eq}
use Rattle.tree_rules.specs.Labels.{GridAxis}
use Rattle.tree_rules.specs.NodeSizes.{margin}

-- whether a border box of this size is as long as its area and has no margins there: `auto` ones count 0
abbrev pub is_as_long : GridAxis → ℤ → ℤ → Bool
is_as_long g size box = int_eq box size && (int_eq (margin g.margin_start) (pos 0) && int_eq (margin g.margin_end) (pos 0))

-- It is.
pub record IsAsLong (g : GridAxis) (size box : ℤ) : Type 0 where
  pub same : box ≡ size
  pub before : margin g.margin_start ≡ pos 0
  pub after : margin g.margin_end ≡ pos 0
