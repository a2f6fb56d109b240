use Rattle.std.proofs.Common.{◌≡◌, None, map, take}
use Rattle.placing.specs.Nodes.{bare}
use Rattle.tree_rules.specs.FlexSizes as rules
use Rattle.block_sizes.specs.Settling.{settled_seen}
use Rattle.block_sizes.proofs.flex.items_in_column.Given as goal

abbrev pub invariant-loop-index : goal.invariant-loop-index
invariant-loop-index l = l.items.items ≡ map (rules.column_item None) (take l.index (settled_seen (bare l.fn.tree.tree) l.fn.id l.fn.parts.boxes))
