use Rattle.std.proofs.Common.{arith, ap, ◌≡◌, ◌∙◌, pos, ◌-ℤ◌, length}
use Rattle.std.specs.Int.{int_max}
use Rattle.lunit.specs.Units.{clamp}
use Rattle.part_rules.specs.FlexLines.{gaps}
use Rattle.part_rules.specs.Lists.{sum_of}
use Rattle.std.proofs.lemmas.Int.{ints}
use Rattle.flex_lines.proofs.Crossing.{all_summed, sum_next}
use Rattle.flex_lines.proofs.crosses.cross_rest.Goals as goal

pub loop-size-preserved : goal.loop-size-preserved
loop-size-preserved c = record {
  so_far = omega (arith, ints, c.add-sum.ensures, c.wide.ensures.value, c.loop-size.invariant.so_far, c.size-item.is, sum_next c.args.sizes.now c.loop-size.size-index c.size-item.result c.loop-size-test.true);
  low = omega (arith, ints, c.add-sum.ensures, c.wide.ensures.range.0, c.loop-size.invariant.low);
  high = omega (arith, ints, c.add-sum.ensures, c.wide.ensures.range.1, c.loop-size.invariant.high);
}

pub returns : goal.returns
returns c =
    let sizes = c.args.sizes.now in
    let sum : c.loop-size.sum ≡ sum_of sizes = all_summed sizes c.loop-size.size-index c.loop-size.sum (omega arith) c.loop-size.invariant.so_far in
    c.positive_part.ensures.value
    ∙ ap (λ z. clamp (int_max (pos 0) z)) (c.sub-rest.ensures ∙ ap (λ z. z -ℤ c.loop-size.sum) (c.sub.ensures ∙ ap (λ z. c.args.cross -ℤ z) c.gaps.ensures.value) ∙ ap (λ z. c.args.cross -ℤ gaps c.args.gap (length sizes) -ℤ z) sum)
