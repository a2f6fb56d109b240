use Rattle.std.proofs.Common.{arith, ◌≡◌, ◌∙◌, ap, get_or}
use Rattle.std.proofs.lemmas.Int.{ints}
use Rattle.part_rules.specs.FlexLines.{free_factor, outer_now, weight_of}
use Rattle.flex_lines.specs.Rounds.{piece}
use Rattle.flex_lines.proofs.Steps.{total_next, sum_next}
use Rattle.flex_lines.proofs.space.sums_of.Goals as goal

pub loop-one-preserved : goal.loop-one-preserved
loop-one-preserved c =
    let fs = c.args.flexible.now in
    let grow = c.args.grow in
    let i = c.loop-one.one-index in
    let one = c.one-item.result in
    let factor : c.factor_of.result ≡ free_factor grow (piece (get_or fs i one)) = c.factor_of.ensures ∙ ap (λ f. free_factor grow (piece f)) c.one-item.is in
    let weight : c.weight_of-weights.result ≡ weight_of grow (piece (get_or fs i one)) = c.weight_of-weights.ensures.value ∙ ap (λ f. weight_of grow (piece f)) c.one-item.is in
    let outer : c.outer_base.result ≡ outer_now (piece (get_or fs i one)) = c.outer_base.ensures.value ∙ ap (λ f. outer_now (piece f)) c.one-item.is in
    record {
      factors = omega (arith, factor, c.loop-one.invariant.factors, total_next (free_factor grow) fs i one c.loop-one-test.true);
      weights = omega (arith, weight, c.loop-one.invariant.weights, total_next (weight_of grow) fs i one c.loop-one-test.true);
      outer = omega (arith, ints, c.add-outer.ensures, outer, c.loop-one.invariant.outer, sum_next outer_now fs i one c.loop-one-test.true);
      few_factors = omega arith;
      few_weights = omega (arith, c.loop-one.invariant.few_weights, c.weight_of-weights.ensures.range);
      low = omega (arith, ints, c.add-outer.ensures, c.loop-one.invariant.low, c.outer_base.ensures.range.0);
      high = omega (arith, ints, c.add-outer.ensures, c.loop-one.invariant.high, c.outer_base.ensures.range.1);
    }
