use Rattle.std.proofs.Common.{arith, rules, ap, ◌≡◌, ◌∙◌, ◌+◌, ◌+ℤ◌, drop}
use Rattle.std.proofs.lemmas.Int.{ints}
use Rattle.part_rules.specs.Views.{extra_before}
use Rattle.subgrid_view.specs.Sums.{given}
use Rattle.subgrid_view.proofs.Levels.{before_is_units, before_next, before_none}
use Rattle.subgrid_view.proofs.Sums.{none_given}
use Rattle.subgrid_view.proofs.margins.extra_before.Goals as goal

pub loop-level-init : goal.loop-level-init
loop-level-init c =
    let none = c.no_level-lower in
    record {
      so_far = none_given none.result (extra_before c.args.levels.now c.line_number-line.result) none.ensures.sum none.ensures.least none.ensures.most (before_is_units c.args.levels.now c.line_number-line.result);
      order = none.ensures.order;
      low_sum = omega (arith, ints, none.ensures.sum);
      high_sum = omega (arith, ints, none.ensures.sum);
      low_line = omega (arith, ints, c.line_number-line.ensures);
      high_line = omega (arith, ints, c.line_number-line.ensures);
    }

pub loop-level-preserved : goal.loop-level-preserved
loop-level-preserved c =
    let next : c.add-line.result ≡ c.loop-level.line +ℤ c.level-item.result.span.start = search rules in
    record {
      so_far = c.with_level-lower.ensures.more (extra_before (drop (c.loop-level.level-index + 1) c.args.levels.now) c.add-line.result)
          ∙ ap (given c.loop-level.lower) (before_next c.args.levels.now c.loop-level.level-index c.level-item.result c.loop-level.line c.add-line.result c.own_before.result c.loop-level-test.true c.level-item.is c.own_before.ensures.value next)
          ∙ c.loop-level.invariant.so_far;
      order = c.with_level-lower.ensures.order;
      low_sum = omega (arith, ints, c.with_level-lower.ensures.sum, c.own_before.ensures.range.0, c.loop-level.invariant.low_sum);
      high_sum = omega (arith, ints, c.with_level-lower.ensures.sum, c.own_before.ensures.range.1, c.loop-level.invariant.high_sum);
      low_line = omega (arith, ints);
      high_line = omega (arith, ints);
    }

pub returns : goal.returns
returns c =
    c.whole.ensures
    ∙ ap (given c.loop-level.lower) (before_none c.args.levels.now c.loop-level.level-index c.loop-level.line (omega arith))
    ∙ c.loop-level.invariant.so_far
    ∙ ap (extra_before c.args.levels.now) (let e : c.line_number-line.result ≡ c.args.line = search rules in e)
