use Rattle.track_sizing.proofs.Unchanged.{IsCalmTo}
use Rattle.track_sizing.proofs.calm.are_calm.Given as goal

abbrev pub invariant-loop-row : goal.invariant-loop-row
invariant-loop-row l = IsCalmTo l.rows l.row-index
