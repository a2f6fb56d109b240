use Rattle.part_rules.specs.Tracks.{raise_limit}
use Rattle.track_sizing.proofs.Loops.{IsChanged}
use Rattle.track_sizing.proofs.distribute.raise_each_limit.Given as goal

abbrev pub invariant-loop-row : goal.invariant-loop-row
invariant-loop-row l = IsChanged raise_limit l.fn.rows l.rows l.row-index
