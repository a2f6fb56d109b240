use Rattle.flex_lines.proofs.AllLines.{range_read}
use Rattle.std.proofs.Common.{length}
use Rattle.flex_lines.proofs.lengths.all_sizes.Goals as goal

pub items_of-requires : goal.items_of-requires
items_of-requires c = range_read (length c.args.items.now) c.args.lines.now c.loop-line.line-index (0, 0) c.requires.ranges c.loop-line-test.true
