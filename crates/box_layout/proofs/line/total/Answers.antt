use Rattle.std.proofs.Common.{arith}
use Rattle.std.proofs.lemmas.Int.{ints}
use Rattle.inline_sizes.proofs.Edges.{all_summed, sum_next}
use Rattle.box_layout.proofs.line.total.Goals as goal

pub loop-size-preserved : goal.loop-size-preserved
loop-size-preserved c = record {
  so_far = omega (arith, ints, c.add-sum.ensures, c.wide.ensures.value, c.loop-size.invariant.so_far, c.size-item.is, sum_next c.args.sizes.now c.loop-size.size-index c.size-item.result c.loop-size-test.true);
  low = omega (arith, ints, c.add-sum.ensures, c.wide.ensures.range.0, c.loop-size.invariant.low);
  high = omega (arith, ints, c.add-sum.ensures, c.wide.ensures.range.1, c.loop-size.invariant.high);
}

pub returns-clause-value : goal.returns-clause-value
returns-clause-value c = all_summed c.args.sizes.now c.loop-size.size-index c.loop-size.sum (omega arith) c.loop-size.invariant.so_far
