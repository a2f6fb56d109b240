use Rattle.part_rules.specs.Tracks.{raised_base}
use Rattle.track_sizing.proofs.Loops.{IsChanged}
use Rattle.track_sizing.proofs.distribute.raise_bases.Given as goal

abbrev pub invariant-loop-row : goal.invariant-loop-row
invariant-loop-row l = IsChanged raised_base l.fn.rows l.rows l.row-index
