use Rattle.track_sizing.specs.Here.{incur_share}
use Rattle.track_sizing.proofs.Loops.{IsZipped}
use Rattle.track_sizing.proofs.turn.incur_shares.Given as goal

abbrev pub invariant-loop-place : goal.invariant-loop-place
invariant-loop-place l = IsZipped incur_share l.fn.rows l.takers l.rows l.place
