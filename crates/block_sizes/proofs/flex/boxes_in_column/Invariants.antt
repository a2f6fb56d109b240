use Rattle.std.proofs.Common.{◌≡◌, map, take}
use Rattle.placing.specs.Nodes.{bare}
use Rattle.tree_rules.specs.FlexSizes as rules
use Rattle.inline_sizes.specs.Flexes.{flex_seen, member_of}
use Rattle.block_sizes.specs.Settling.{AreRoomy}
use Rattle.block_sizes.proofs.flex.boxes_in_column.Given as goal

abbrev pub invariant-loop-index : goal.invariant-loop-index
invariant-loop-index l = record {
  so_far : l.boxes ≡ map (rules.column_box (flex_seen (bare l.fn.tree.tree) l.fn.id).label l.fn.width) (map (member_of (bare l.fn.tree.tree)) (take l.index l.members));
  roomy : AreRoomy (map (member_of (bare l.fn.tree.tree)) (take l.index l.members)) l.boxes;
}
