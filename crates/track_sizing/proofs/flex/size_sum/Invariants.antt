use Rattle.track_sizing.proofs.Bounds.{IsSizeSum}
use Rattle.track_sizing.proofs.flex.size_sum.Given as goal

abbrev pub invariant-loop-row : goal.invariant-loop-row
invariant-loop-row l = IsSizeSum l.all l.row-index l.sum
