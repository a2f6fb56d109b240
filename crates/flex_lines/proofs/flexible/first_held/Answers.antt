use Rattle.std.proofs.Common.{arith}
use Rattle.std.proofs.lemmas.Int.{ints}
use Rattle.flex_lines.proofs.Starts.{held_next_item}
use Rattle.flex_lines.proofs.flexible.first_held.Goals as goal

pub loop-item-preserved : goal.loop-item-preserved
loop-item-preserved c = record {
  so_far = omega (arith, ints, c.add-held.ensures, c.held_at_first.ensures.value, c.loop-item.invariant.so_far, held_next_item c.args.grow c.args.items.now c.loop-item.item-index c.item-item.result c.loop-item-test.true c.item-item.is);
  low = omega (arith, ints, c.add-held.ensures, c.loop-item.invariant.low, c.held_at_first.ensures.range.0);
  high = omega (arith, ints, c.add-held.ensures, c.loop-item.invariant.high, c.held_at_first.ensures.range.1);
}
