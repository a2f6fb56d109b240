use Rattle.part_rules.specs.Tracks.{Track, capped_most}
use Rattle.track_sizing.proofs.Sums.{IsKnown}
use Rattle.track_sizing.proofs.item.capped_sum.Given as goal

abbrev pub invariant-loop-row : goal.invariant-loop-row
invariant-loop-row l = IsKnown (λ (t : Track). capped_most t.rule.most) l.rows l.row-index l.sum
