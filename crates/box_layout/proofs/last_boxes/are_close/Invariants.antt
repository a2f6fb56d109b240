use Rattle.std.proofs.Common.{take}
use Rattle.box_layout.specs.LastBoxes.{AreClose}
use Rattle.box_layout.proofs.last_boxes.are_close.Given as goal

abbrev pub invariant-loop-index : goal.invariant-loop-index
invariant-loop-index l = AreClose (take l.index l.boxes)
