use Rattle.std.proofs.Common.{take}
use Rattle.box_layout.specs.LastBoxes.{AddsFew}
use Rattle.box_layout.proofs.last_boxes.Few.add.Given as goal

abbrev pub invariant-loop-index : goal.invariant-loop-index
invariant-loop-index l = AddsFew (take l.index l.other-inside.boxes.items) l.fn.self l.self
