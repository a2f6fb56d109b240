use Rattle.std.proofs.Common.{arith, map}
use Rattle.std.proofs.lemmas.Int.{ints}
use Rattle.part_rules.specs.Lists.{sum_of}
use Rattle.box_layout.specs.Seats.{outer_main}
use Rattle.box_layout.proofs.Steps.{all_outer, outer_step}
use Rattle.box_layout.proofs.line.outer_sum.Goals as goal

pub loop-child-preserved : goal.loop-child-preserved
loop-child-preserved c = record {
  so_far =
      outer_step c.args.line.now c.loop-child.child-index c.child-item.result c.child-item.result c.loop-child.sum c.outer_main.result c.add-sum.result (sum_of (map outer_main c.args.line.now)) c.loop-child-test.true c.child-item.is c.outer_main.ensures.value c.add-sum.ensures
      c.loop-child.invariant.so_far;
  low = omega (arith, ints, c.add-sum.ensures, c.outer_main.ensures.range.0, c.loop-child.invariant.low);
  high = omega (arith, ints, c.add-sum.ensures, c.outer_main.ensures.range.1, c.loop-child.invariant.high);
}

pub returns-clause-value : goal.returns-clause-value
returns-clause-value c = all_outer c.args.line.now c.loop-child.child-index c.loop-child.sum (omega arith) c.loop-child.invariant.so_far
