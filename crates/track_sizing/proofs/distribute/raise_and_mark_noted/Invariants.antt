use Rattle.track_sizing.specs.Reached.{marked_where}
use Rattle.track_sizing.proofs.Loops.{IsZipped}
use Rattle.track_sizing.proofs.distribute.raise_and_mark_noted.Given as goal

abbrev pub invariant-loop-place : goal.invariant-loop-place
invariant-loop-place l = IsZipped marked_where l.fn.rows l.notes l.rows l.place
