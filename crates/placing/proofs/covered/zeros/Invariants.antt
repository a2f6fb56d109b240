use Rattle.std.proofs.Common.{◌≡◌, replicate}
use Rattle.placing.proofs.covered.zeros.Given as goal

abbrev pub invariant-loop-at : goal.invariant-loop-at
invariant-loop-at l = l.zeros ≡ replicate l.at 0
