use Rattle.std.proofs.Common.{arith, rules, ap, ◌≡◌, ◌∙◌, ◌+◌, ◌+ℤ◌, drop}
use Rattle.std.proofs.lemmas.Int.{ints}
use Rattle.part_rules.specs.Views.{extra_after}
use Rattle.subgrid_view.specs.Sums.{given}
use Rattle.subgrid_view.proofs.Levels.{after_is_units, after_next, after_none}
use Rattle.subgrid_view.proofs.Sums.{none_given}
use Rattle.subgrid_view.proofs.margins.extra_after.Goals as goal

pub loop-level-init : goal.loop-level-init
loop-level-init c =
    let none = c.no_level-lower in
    record {
      so_far = none_given none.result (extra_after c.args.levels.now c.line_number-line.result) none.ensures.sum none.ensures.least none.ensures.most (after_is_units c.args.levels.now c.line_number-line.result);
      order = none.ensures.order;
      low_sum = omega (arith, ints, none.ensures.sum);
      high_sum = omega (arith, ints, none.ensures.sum);
      low_line = omega (arith, ints, c.line_number-line.ensures);
      high_line = omega (arith, ints, c.line_number-line.ensures);
    }

pub loop-level-preserved : goal.loop-level-preserved
loop-level-preserved c =
    let next : c.add-line.result ≡ c.loop-level.line +ℤ c.level-item.result.span.start = search rules in
    record {
      so_far = c.with_level-lower.ensures.more (extra_after (drop (c.loop-level.level-index + 1) c.args.levels.now) c.add-line.result)
          ∙ ap (given c.loop-level.lower) (after_next c.args.levels.now c.loop-level.level-index c.level-item.result c.loop-level.line c.add-line.result c.own_after.result c.loop-level-test.true c.level-item.is c.own_after.ensures.value next)
          ∙ c.loop-level.invariant.so_far;
      order = c.with_level-lower.ensures.order;
      low_sum = omega (arith, ints, c.with_level-lower.ensures.sum, c.own_after.ensures.range.0, c.loop-level.invariant.low_sum);
      high_sum = omega (arith, ints, c.with_level-lower.ensures.sum, c.own_after.ensures.range.1, c.loop-level.invariant.high_sum);
      low_line = omega (arith, ints);
      high_line = omega (arith, ints);
    }

pub returns : goal.returns
returns c =
    c.whole.ensures
    ∙ ap (given c.loop-level.lower) (after_none c.args.levels.now c.loop-level.level-index c.loop-level.line (omega arith))
    ∙ c.loop-level.invariant.so_far
    ∙ ap (extra_after c.args.levels.now) (let e : c.line_number-line.result ≡ c.args.line = search rules in e)
