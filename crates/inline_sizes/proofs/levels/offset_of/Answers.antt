use Rattle.std.proofs.Common.{arith, ap}
use Rattle.std.proofs.lemmas.Int.{ints}
use Rattle.part_rules.specs.declared.view.Level.{Level}
use Rattle.inline_sizes.proofs.Offsets.{no_more, offset_next}
use Rattle.inline_sizes.proofs.levels.offset_of.Goals as goal

pub loop-level-preserved : goal.loop-level-preserved
loop-level-preserved c = record {
  so_far = omega (arith, ints, c.add-offset.ensures, c.line_number.ensures.value, c.loop-level.invariant.so_far, ap (λ (l : Level). l.span.start) c.level-item.is, offset_next c.args.levels.now c.loop-level.level-index c.level-item.result c.loop-level-test.true);
  low = omega (arith, ints, c.add-offset.ensures, c.line_number.ensures.range.low, c.loop-level.invariant.low);
  high = omega (arith, ints, c.add-offset.ensures, c.line_number.ensures.range.high, c.loop-level.invariant.high);
}

pub returns-clause-value : goal.returns-clause-value
returns-clause-value c = no_more c.args.levels.now c.loop-level.level-index c.loop-level.offset (omega arith) c.loop-level.invariant.so_far
