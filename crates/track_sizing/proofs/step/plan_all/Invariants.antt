use Rattle.part_rules.specs.Tracks.{plan}
use Rattle.track_sizing.proofs.Loops.{IsChanged}
use Rattle.track_sizing.proofs.step.plan_all.Given as goal

abbrev pub invariant-loop-row : goal.invariant-loop-row
invariant-loop-row l = IsChanged plan l.fn.rows l.rows l.row-index
