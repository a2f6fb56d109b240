use Rattle.track_sizing.proofs.Parts.{AreParts}
use Rattle.track_sizing.proofs.factors.incur_parts.Given as goal

abbrev pub invariant-loop-row : goal.invariant-loop-row
invariant-loop-row l = AreParts l.affected l.space l.total l.fn.rows l.rows l.row-index l.sum l.lower
