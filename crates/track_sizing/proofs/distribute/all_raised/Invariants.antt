use Rattle.track_sizing.proofs.Staying.{IsRaisedTo}
use Rattle.track_sizing.proofs.distribute.all_raised.Given as goal

abbrev pub invariant-loop-row : goal.invariant-loop-row
invariant-loop-row l = IsRaisedTo l.rows l.row-index
