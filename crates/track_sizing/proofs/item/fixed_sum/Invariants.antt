use Rattle.part_rules.specs.Tracks.{Track, fixed_most}
use Rattle.track_sizing.proofs.Sums.{IsKnown}
use Rattle.track_sizing.proofs.item.fixed_sum.Given as goal

abbrev pub invariant-loop-row : goal.invariant-loop-row
invariant-loop-row l = IsKnown (λ (t : Track). fixed_most t.rule.most) l.rows l.row-index l.sum
