use Rattle.track_sizing.proofs.Staying.{IsStayingTo}
use Rattle.track_sizing.proofs.distribute.all_stay.Given as goal

abbrev pub invariant-loop-row : goal.invariant-loop-row
invariant-loop-row l = IsStayingTo l.rows l.row-index
