use Rattle.track_sizing.proofs.Steady.{IsSteadyTo}
use Rattle.track_sizing.proofs.calm.are_steady.Given as goal

abbrev pub invariant-loop-row : goal.invariant-loop-row
invariant-loop-row l = IsSteadyTo l.rows l.row-index
