use Rattle.track_sizing.specs.Kinds.{affected_of}
use Rattle.track_sizing.specs.Reached.{noted_by}
use Rattle.track_sizing.proofs.Loops.{IsZipped}
use Rattle.track_sizing.proofs.reach.note_affected.Given as goal

abbrev pub invariant-loop-place : goal.invariant-loop-place
invariant-loop-place l = IsZipped (noted_by (affected_of l.affected)) l.fn.notes l.rows l.notes l.place
