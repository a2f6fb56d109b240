use Rattle.std.proofs.Common.{◌≡◌, ◌++◌, drop}
use Rattle.part_rules.specs.Lists.{zipped}
use Rattle.placing.specs.Nodes.{bare}
use Rattle.box_layout.specs.FlexFrames.{member_outer}
use Rattle.box_layout.proofs.flexes.own_outers.Given as goal

abbrev pub invariant-loop-index : goal.invariant-loop-index
invariant-loop-index l = l.sizes.items ++ zipped (member_outer (bare l.tree.tree) l.column) (drop l.index l.members) (drop l.index l.crosses) ≡ zipped (member_outer (bare l.tree.tree) l.column) l.members l.crosses
