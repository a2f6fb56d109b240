use Rattle.std.proofs.Common.{arith}
use Rattle.std.proofs.lemmas.Int.{ints}
use Rattle.block_sizes.proofs.Outers.{all_summed, sum_next}
use Rattle.block_sizes.proofs.flexes.sum_of_outers.Goals as goal

pub loop-item-preserved : goal.loop-item-preserved
loop-item-preserved c = record {
  so_far = sum_next c.args.items.now c.loop-item.item-index c.item-item.result c.loop-item.sum c.outer_hypothetical.result c.add-sum.result c.loop-item-test.true c.item-item.is c.outer_hypothetical.ensures.value c.add-sum.ensures c.loop-item.invariant.so_far;
  low = omega (arith, ints, c.add-sum.ensures, c.outer_hypothetical.ensures.low, c.loop-item.invariant.low);
  high = omega (arith, ints, c.add-sum.ensures, c.outer_hypothetical.ensures.high, c.loop-item.invariant.high);
}

pub returns-clause-value : goal.returns-clause-value
returns-clause-value c = all_summed c.args.items.now c.loop-item.item-index c.loop-item.sum (omega arith) c.loop-item.invariant.so_far
