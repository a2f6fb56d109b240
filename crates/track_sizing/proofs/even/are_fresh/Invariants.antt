use Rattle.track_sizing.proofs.Evenly.{IsFreshTo}
use Rattle.track_sizing.proofs.even.are_fresh.Given as goal

abbrev pub invariant-loop-row : goal.invariant-loop-row
invariant-loop-row l = IsFreshTo l.rows l.row-index
