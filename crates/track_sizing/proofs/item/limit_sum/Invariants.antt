use Rattle.part_rules.specs.Tracks.{limit_of}
use Rattle.track_sizing.proofs.Sums.{IsSumOf}
use Rattle.track_sizing.proofs.item.limit_sum.Given as goal

abbrev pub invariant-loop-row : goal.invariant-loop-row
invariant-loop-row l = IsSumOf limit_of l.rows l.row-index l.sum
