use Rattle.std.proofs.Common.{◌≡◌, None, false, map, take}
use Rattle.placing.specs.Nodes.{bare}
use Rattle.tree_rules.specs.FlexSizes as rules
use Rattle.block_sizes.specs.Settling.{settled_seen}
use Rattle.block_sizes.proofs.flex.outers_in_row.Given as goal

abbrev pub invariant-loop-index : goal.invariant-loop-index
invariant-loop-index l = l.sizes.items ≡ map (rules.outer_cross false None) (take l.index (settled_seen (bare l.fn.tree.tree) l.fn.id l.fn.parts.lines.mains))
