use Rattle.std.proofs.Common.{arith}
use Rattle.track_sizing.proofs.Bounds.{more_sizes}
use Rattle.track_sizing.proofs.flex.size_sum.Goals as goal

pub loop-row-preserved : goal.loop-row-preserved
loop-row-preserved c = more_sizes c.args.all.now c.loop-row.row-index c.loop-row.sum c.wide.result c.add-sum.result c.row-item.result c.loop-row.invariant (omega arith) c.row-item.is c.wide.ensures.value c.wide.ensures.range c.add-sum.ensures
