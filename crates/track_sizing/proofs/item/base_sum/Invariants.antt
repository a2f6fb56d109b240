use Rattle.part_rules.specs.Tracks.{base_of}
use Rattle.track_sizing.proofs.Sums.{IsSumOf}
use Rattle.track_sizing.proofs.item.base_sum.Given as goal

abbrev pub invariant-loop-row : goal.invariant-loop-row
invariant-loop-row l = IsSumOf base_of l.rows l.row-index l.sum
