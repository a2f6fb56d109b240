use Rattle.std.proofs.Common.{arith, ◌∙◌}
use Rattle.part_rules.specs.Tracks.{base_of}
use Rattle.track_sizing.proofs.Sums.{more_sum}
use Rattle.track_sizing.proofs.item.base_sum.Goals as goal

pub loop-row-preserved : goal.loop-row-preserved
loop-row-preserved c =
    more_sum base_of c.args.rows.now c.loop-row.row-index c.loop-row.sum c.wide.result c.add-sum.result c.row-item.result c.loop-row.invariant (omega arith) c.row-item.is (c.wide.ensures.value ∙ c.base.ensures.value) c.wide.ensures.range c.add-sum.ensures
