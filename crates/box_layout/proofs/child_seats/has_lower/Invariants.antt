use Rattle.std.proofs.Common.{◌≡◌, drop, map}
use Rattle.placing.specs.Kept.{frame_of}
use Rattle.box_layout.specs.Beneath.{has_lower}
use Rattle.box_layout.proofs.child_seats.has_lower.Given as goal

abbrev pub invariant-loop-index : goal.invariant-loop-index
invariant-loop-index l = has_lower (drop l.index (map frame_of l.frames)) ≡ has_lower (map frame_of l.frames)
