use Rattle.part_rules.specs.Tracks.{with_base}
use Rattle.track_sizing.proofs.Loops.{IsZipped}
use Rattle.track_sizing.proofs.flex.set_bases.Given as goal

abbrev pub invariant-loop-place : goal.invariant-loop-place
invariant-loop-place l = IsZipped with_base l.fn.rows l.all l.rows l.place
