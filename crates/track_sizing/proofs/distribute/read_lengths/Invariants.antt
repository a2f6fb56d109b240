use Rattle.track_sizing.proofs.Still.{IsReadTo}
use Rattle.track_sizing.proofs.distribute.read_lengths.Given as goal

abbrev pub invariant-loop-row : goal.invariant-loop-row
invariant-loop-row l = IsReadTo l.rows l.row-index
