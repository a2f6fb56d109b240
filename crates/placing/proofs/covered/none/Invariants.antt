use Rattle.std.proofs.Common.{false}
use Rattle.placing.specs.Covered.{AreFlags}
use Rattle.placing.proofs.covered.none.Given as goal

abbrev pub invariant-loop-at : goal.invariant-loop-at
invariant-loop-at l = AreFlags (λ _. false) l.at l.flags
