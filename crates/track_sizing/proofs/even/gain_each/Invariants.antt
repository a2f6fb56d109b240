use Rattle.track_sizing.specs.Even.{gained}
use Rattle.track_sizing.proofs.Loops.{IsChanged}
use Rattle.track_sizing.proofs.even.gain_each.Given as goal

abbrev pub invariant-loop-row : goal.invariant-loop-row
invariant-loop-row l = IsChanged (gained l.gains l.share) l.fn.rows l.rows l.row-index
