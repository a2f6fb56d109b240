use Rattle.track_sizing.specs.Here.{grow_share}
use Rattle.track_sizing.proofs.Loops.{IsZipped}
use Rattle.track_sizing.proofs.rest.grow_by_shares.Given as goal

abbrev pub invariant-loop-place : goal.invariant-loop-place
invariant-loop-place l = IsZipped grow_share l.fn.rows l.takers l.rows l.place
