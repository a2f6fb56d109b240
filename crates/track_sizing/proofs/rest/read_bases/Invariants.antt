use Rattle.track_sizing.proofs.Ungrown.{IsUnitsTo}
use Rattle.track_sizing.proofs.rest.read_bases.Given as goal

abbrev pub invariant-loop-row : goal.invariant-loop-row
invariant-loop-row l = IsUnitsTo l.rows l.row-index
