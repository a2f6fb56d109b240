use Rattle.std.proofs.Common.{arith}
use Rattle.std.proofs.lemmas.Int.{ints}
use Rattle.flex_lines.proofs.Starts.{outer_next_item}
use Rattle.flex_lines.proofs.lengths.line_length.Goals as goal

pub loop-item-preserved : goal.loop-item-preserved
loop-item-preserved c = record {
  so_far = omega (arith, ints, c.add-sum.ensures, c.outer_hypothetical.ensures.value, c.loop-item.invariant.so_far, outer_next_item c.args.items.now c.loop-item.item-index c.item-item.result c.loop-item-test.true c.item-item.is);
  low = omega (arith, ints, c.add-sum.ensures, c.loop-item.invariant.low, c.outer_hypothetical.ensures.range.0);
  high = omega (arith, ints, c.add-sum.ensures, c.loop-item.invariant.high, c.outer_hypothetical.ensures.range.1);
}
