use Rattle.std.proofs.Common.{arith}
use Rattle.track_sizing.proofs.Still.{more_read}
use Rattle.track_sizing.proofs.distribute.read_lengths.Goals as goal

pub loop-row-preserved : goal.loop-row-preserved
loop-row-preserved c =
    more_read c.args.rows.now c.loop-row.row-index c.row-item.result c.base-base.result c.limit_or_base-limit.result c.loop-row.invariant (omega arith) c.row-item.is c.base-base.ensures.value c.base-base.ensures.some c.limit_or_base-limit.ensures.value c.limit_or_base-limit.ensures.some
