use Rattle.std.proofs.Common.{◌≡◌, ◌++◌, drop, take}
use Rattle.placing.specs.Nodes.{bare}
use Rattle.box_layout.specs.FlexFrames.{member_sitting, zipped3}
use Rattle.box_layout.specs.Near.{AreUnits}
use Rattle.box_layout.proofs.flexes.sittings.Given as goal

abbrev pub invariant-loop-index : goal.invariant-loop-index
invariant-loop-index l = record {
  so_far : l.children.items ++ zipped3 (member_sitting (bare l.tree.tree) l.id l.flex.column l.flex.cross) (drop l.index l.members) (drop l.index l.mains) (drop l.index l.crosses) ≡ zipped3 (member_sitting (bare l.tree.tree) l.id l.flex.column l.flex.cross) l.members l.mains l.crosses;
  units : AreUnits (take l.index l.mains);
}
