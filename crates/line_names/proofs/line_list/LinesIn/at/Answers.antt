use Rattle.std.proofs.Common.{arith, rules, sym, ◌∙◌, ◌≡◌, ◌-◌, ◌+ℤ◌, length, pos, to_z, of_z, ap, w32, w64, SFits}
use Rattle.std.proofs.lemmas.Int.{to_z-of_z}
use Rattle.line_names.specs.LineLists.{is_in}
use Rattle.line_names.specs.Passing.{passing}
use Rattle.line_names.proofs.LineLists.{here_at, passed_more, passed_same}
use Rattle.line_names.proofs.line_list.LinesIn.at.Goals as goal
use Rattle.line_names.proofs.line_list.LinesIn.at.Goals.{then-has_bit+else-left-eq0, else-has_bit}

pub returns-then-left-eq0-clause-value : goal.returns-then-left-eq0-clause-value
returns-then-left-eq0-clause-value c =
    let first : to_z w32 (of_z w32 c.args.self.first) ≡ c.args.self.first = to_z-of_z w32 c.args.self.first (search rules) in
    let fits : SFits w64 c.place_line.result = search rules in
    let passed : length (passing (is_in c.args.self.words.now c.args.self.first) (c.args.self.first +ℤ pos c.args.self.start) (c.loop-place.place - c.args.self.start)) ≡ c.args.index = omega (arith, c.loop-place.invariant.passed, c.if-left-eq0.true) in
    to_z-of_z w64 c.place_line.result fits
    ∙ c.place_line.ensures
    ∙ ap (λ z. z +ℤ pos c.loop-place.place) first
    ∙ sym (here_at c.args.self.words.now c.args.self.first c.args.self.start c.loop-place.place c.args.self.end c.args.index (pos 0) c.loop-place.invariant.from c.loop-place-test.true (sym c.has_bit.ensures ∙ c.if-has_bit.true) passed)

pub loop-place-preserved : goal.loop-place-preserved
loop-place-preserved c = elim c.if-has_bit.branch [
  | then-has_bit+else-left-eq0 w ↦ record {
    from = omega (arith, c.loop-place.invariant.from);
    within = omega (arith, c.loop-place.invariant.from, c.loop-place-test.true);
    passed = passed_more c.args.self.words.now c.args.self.first c.args.self.start c.loop-place.place c.loop-place.left _ c.args.index c.loop-place.invariant.from (sym c.has_bit.ensures ∙ w.if-has_bit.true) (omega (arith, w.left-is, w.if-left-eq0.false)) c.loop-place.invariant.passed;
  }
  | else-has_bit w ↦ record {
    from = omega (arith, c.loop-place.invariant.from);
    within = omega (arith, c.loop-place.invariant.from, c.loop-place-test.true);
    passed = passed_same c.args.self.words.now c.args.self.first c.args.self.start c.loop-place.place c.loop-place.left _ c.args.index c.loop-place.invariant.from (sym c.has_bit.ensures ∙ w.if-has_bit.false) w.left-is c.loop-place.invariant.passed;
  }
]
