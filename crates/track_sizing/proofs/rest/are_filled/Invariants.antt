use Rattle.track_sizing.proofs.Ungrown.{IsFilledTo}
use Rattle.track_sizing.proofs.rest.are_filled.Given as goal

abbrev pub invariant-loop-row : goal.invariant-loop-row
invariant-loop-row l = IsFilledTo l.rows l.row-index
