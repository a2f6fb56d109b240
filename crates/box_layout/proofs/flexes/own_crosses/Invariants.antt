use Rattle.std.proofs.Common.{◌≡◌, ◌++◌, drop}
use Rattle.placing.specs.Nodes.{bare}
use Rattle.box_layout.specs.FlexFrames.{member_cross, zipped3}
use Rattle.box_layout.proofs.flexes.own_crosses.Given as goal

abbrev pub invariant-loop-index : goal.invariant-loop-index
invariant-loop-index l = l.sizes.items ++ zipped3 (member_cross (bare l.tree.tree) l.column l.cross) (drop l.index l.members) (drop l.index l.boxes) (drop l.index l.blocks) ≡ zipped3 (member_cross (bare l.tree.tree) l.column l.cross) l.members l.boxes l.blocks
