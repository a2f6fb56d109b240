use Rattle.std.proofs.Common.{arith, sym, true≢false, ◌∙◌}
use Rattle.line_names.proofs.LineLists.{none_more, some_here}
use Rattle.line_names.proofs.line_list.LinesIn.is_empty.Goals as goal

pub returns-then-has_bit : goal.returns-then-has_bit
returns-then-has_bit c = (
  λ h. absurd (true≢false (sym h)),
  λ none. absurd (some_here c.args.self.words.now c.args.self.first c.args.self.start c.loop-place.place c.args.self.end c.loop-place.invariant.from c.loop-place-test.true (sym c.has_bit.ensures ∙ c.if-has_bit.true) none),
)

pub loop-place-preserved : goal.loop-place-preserved
loop-place-preserved c = record {
  from = omega (arith, c.loop-place.invariant.from);
  within = omega (arith, c.loop-place.invariant.from, c.loop-place-test.true);
  none = none_more c.args.self.words.now c.args.self.first c.args.self.start c.loop-place.place c.loop-place.invariant.from (sym c.has_bit.ensures ∙ c.if-has_bit.false) c.loop-place.invariant.none;
}
