-- The margins of a node along an axis, as the code holds them.
use Rattle.std.specs.Prelude.{ℤ, ◌+ℤ◌}
use Rattle.tree_rules.specs.NodeSizes.{margin}
use Rattle.box_layout.specs.declared.aligned.Margins.{Margins}

-- the two margins together, `auto` counting 0
abbrev pub both_margins : Margins → ℤ
both_margins m = margin m.start +ℤ margin m.end
