use Rattle.std.proofs.Common.{◌≡◌, ◌++◌, drop}
use Rattle.part_rules.specs.Lists.{zipped}
use Rattle.placing.specs.Nodes.{bare}
use Rattle.box_layout.specs.FlexFrames.{member_item}
use Rattle.box_layout.proofs.columns.items_at.Given as goal

abbrev pub invariant-loop-index : goal.invariant-loop-index
invariant-loop-index l = l.items.items ++ zipped (member_item (bare l.tree.tree) l.height) (drop l.index l.members) (drop l.index l.blocks) ≡ zipped (member_item (bare l.tree.tree) l.height) l.members l.blocks
