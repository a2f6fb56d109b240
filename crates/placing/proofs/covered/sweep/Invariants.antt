use Rattle.placing.specs.Covered.{IsSwept}
use Rattle.placing.proofs.covered.sweep.Given as goal

abbrev pub invariant-loop-at : goal.invariant-loop-at
invariant-loop-at l = IsSwept l.marks l.at l.farthest l.flags
