use Rattle.part_rules.specs.Tracks.{full}
use Rattle.track_sizing.proofs.Loops.{IsChanged}
use Rattle.track_sizing.proofs.rest.fill_to_limits.Given as goal

abbrev pub invariant-loop-row : goal.invariant-loop-row
invariant-loop-row l = IsChanged full l.fn.rows l.rows l.row-index
