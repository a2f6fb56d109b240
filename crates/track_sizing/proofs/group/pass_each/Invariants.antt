use Rattle.track_sizing.specs.Groups.{passed}
use Rattle.track_sizing.proofs.Loops.{IsChanged}
use Rattle.track_sizing.proofs.group.pass_each.Given as goal

abbrev pub invariant-loop-row : goal.invariant-loop-row
invariant-loop-row l = IsChanged passed l.fn.rows l.rows l.row-index
