use Rattle.std.proofs.Common.{arith, sym, ◌∙◌}
use Rattle.line_names.proofs.LineLists.{counted_more, counted_same}
use Rattle.line_names.proofs.line_list.LinesIn.len.Goals as goal
use Rattle.line_names.proofs.line_list.LinesIn.len.Goals.{then-has_bit, else-has_bit}

pub overflow_add-count : goal.overflow_add-count
overflow_add-count c = omega (arith, c.loop-place.invariant.few, c.loop-place.auto.place)

pub loop-place-preserved : goal.loop-place-preserved
loop-place-preserved c = elim c.if-has_bit.branch [
  | then-has_bit w ↦ record {
    from = omega (arith, c.loop-place.invariant.from);
    few = omega (arith, c.loop-place.invariant.few, w.count-is);
    within = omega (arith, c.loop-place.invariant.from, c.loop-place-test.true);
    counted = w.count-is ∙ counted_more c.args.self.words.now c.args.self.first c.args.self.start c.loop-place.place c.loop-place.count c.loop-place.invariant.from (sym c.has_bit.ensures ∙ w.if-has_bit.true) c.loop-place.invariant.counted;
  }
  | else-has_bit w ↦ record {
    from = omega (arith, c.loop-place.invariant.from);
    few = omega (arith, c.loop-place.invariant.few, w.count-is);
    within = omega (arith, c.loop-place.invariant.from, c.loop-place-test.true);
    counted = w.count-is ∙ counted_same c.args.self.words.now c.args.self.first c.args.self.start c.loop-place.place c.loop-place.count c.loop-place.invariant.from (sym c.has_bit.ensures ∙ w.if-has_bit.false) c.loop-place.invariant.counted;
  }
]
