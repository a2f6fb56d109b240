use Rattle.track_sizing.specs.Alone.{fit_none}
use Rattle.track_sizing.proofs.Loops.{IsChanged}
use Rattle.track_sizing.proofs.alone.fit_to_none.Given as goal

abbrev pub invariant-loop-row : goal.invariant-loop-row
invariant-loop-row l = IsChanged fit_none l.fn.rows l.rows l.row-index
