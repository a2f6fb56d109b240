use Rattle.placing.specs.Covered.{AreFlags, is_left}
use Rattle.placing.proofs.covered.left.Given as goal

abbrev pub invariant-loop-at : goal.invariant-loop-at
invariant-loop-at l = AreFlags (is_left l.from l.to l.first l.covered) l.at l.flags
