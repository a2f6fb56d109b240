use Rattle.std.proofs.Common.{length}
use Rattle.doc_writer.proofs.Runs.{SoFar}
use Rattle.doc_writer.proofs.track.run_from.Given as goal

abbrev pub decreases-loop-size : goal.decreases-loop-size
decreases-loop-size l = length l.sizes

-- the run so far, with the tracks that are left, is the run with all
abbrev pub invariant-loop-size : goal.invariant-loop-size
invariant-loop-size l = SoFar l.track l.fn.lines l.lines l.fn.sizes l.sizes l.units l.left l.more
