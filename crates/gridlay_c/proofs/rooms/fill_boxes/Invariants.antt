use Rattle.std.proofs.Common.{◌≡◌, ◌++◌, map, take, drop}
use Rattle.gridlay_c.specs.Told.{box_told}
use Rattle.gridlay_c.proofs.rooms.fill_boxes.Given as goal

abbrev pub invariant-loop-index : goal.invariant-loop-index
invariant-loop-index l = l.room ≡ take l.index (map (λ box. box_told box.1) l.boxes) ++ drop l.index l.fn.room
