use Rattle.track_sizing.specs.Alone.{fit_single}
use Rattle.track_sizing.proofs.Loops.{IsZipped}
use Rattle.track_sizing.proofs.alone.fit_each.Given as goal

abbrev pub invariant-loop-place : goal.invariant-loop-place
invariant-loop-place l = IsZipped fit_single l.fn.rows l.singles l.rows l.place
