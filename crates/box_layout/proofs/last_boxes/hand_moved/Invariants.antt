use Rattle.std.proofs.Common.{take}
use Rattle.box_layout.proofs.FoundBoxes.{AreMoved}
use Rattle.box_layout.proofs.last_boxes.hand_moved.Given as goal

abbrev pub invariant-loop-index : goal.invariant-loop-index
invariant-loop-index g l = AreMoved g.T.BoxSink.adds l.fn.told l.told l.fn.few l.few (l.x, l.y) (take l.index l.boxes)
