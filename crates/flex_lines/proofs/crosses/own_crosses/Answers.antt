use Rattle.std.proofs.Common.{length}
use Rattle.flex_lines.proofs.AllLines.{range_read}
use Rattle.flex_lines.proofs.crosses.own_crosses.Goals as goal

pub own_cross-requires : goal.own_cross-requires
own_cross-requires c = range_read (length c.args.outer.now) c.args.lines.now c.loop-line.line-index (0, 0) c.requires c.loop-line-test.true
