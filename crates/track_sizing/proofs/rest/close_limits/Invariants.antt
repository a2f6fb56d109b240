use Rattle.part_rules.specs.Tracks.{close_limit}
use Rattle.track_sizing.proofs.Loops.{IsChanged}
use Rattle.track_sizing.proofs.rest.close_limits.Given as goal

abbrev pub invariant-loop-row : goal.invariant-loop-row
invariant-loop-row l = IsChanged close_limit l.fn.rows l.rows l.row-index
