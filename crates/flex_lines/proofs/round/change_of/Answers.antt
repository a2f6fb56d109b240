use Rattle.std.proofs.Common.{arith}
use Rattle.std.proofs.lemmas.Int.{ints}
use Rattle.flex_lines.proofs.Steps.{change_next}
use Rattle.flex_lines.proofs.round.change_of.Goals as goal

pub loop-place-preserved : goal.loop-place-preserved
loop-place-preserved c = record {
  so_far =
      omega
      (arith, ints, c.add-sum.ensures, c.violation.ensures.value, c.loop-place.invariant.so_far, change_next c.args.flexible.now c.args.sizes.now c.loop-place.place c.index-flexible-place.result c.index-sizes-place.result c.loop-place-test.true c.requires.length c.index-flexible-place.is c.index-sizes-place.is);
  low = omega (arith, ints, c.add-sum.ensures, c.loop-place.invariant.low, c.violation.ensures.range.0);
  high = omega (arith, ints, c.add-sum.ensures, c.loop-place.invariant.high, c.violation.ensures.range.1);
}
