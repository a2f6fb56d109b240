use Rattle.track_sizing.specs.Here.{share_of}
use Rattle.track_sizing.proofs.Loops.{IsMapped}
use Rattle.track_sizing.proofs.turn.set_rooms.Given as goal

abbrev pub invariant-loop-place : goal.invariant-loop-place
invariant-loop-place l = IsMapped (share_of l.rooms) l.rows l.takers l.place
