use Rattle.std.proofs.Common.{arith, rules, sym, ap, ◌∙◌, ◌≡◌, ◌+ℤ◌, pos, length, get_or, to_z, of_z, w32, w64}
use Rattle.std.proofs.lemmas.Int.{ints, to_z-of_z}
use Rattle.line_names.specs.LineLists.{listed}
use Rattle.line_names.specs.Passing.{among, passing}
use Rattle.line_names.specs.SetLists.{is_of}
use Rattle.line_names.proofs.LineLists.{passed_before, passed_next}
use Rattle.line_names.proofs.set_list.SetList.lines_of.Goals as goal

pub push_if-requires-clause-last : goal.push_if-requires-clause-last
push_if-requires-clause-last c =
    let line : to_z w32 (of_z w32 c.line_number.result) ≡ pos 0 +ℤ pos c.loop-at.at = omega (arith, ints, to_z-of_z w32 c.line_number.result (search rules), c.line_number.ensures) in
    passed_before (is_of (listed c.args.kinds) c.args.self.now.kinds) (pos 0) c.loop-at.at c.loop-at.lines _ c.loop-at.invariant line

pub loop-at-preserved : goal.loop-at-preserved
loop-at-preserved c =
    let line : to_z w32 (of_z w32 c.line_number.result) ≡ pos 0 +ℤ pos c.loop-at.at = omega (arith, ints, to_z-of_z w32 c.line_number.result (search rules), c.line_number.ensures) in
    let kind : to_z w64 (of_z w64 c.kind.result) ≡ pos (get_or c.args.self.now.kinds c.loop-at.at 0) = to_z-of_z w64 c.kind.result (search rules) ∙ c.kind.ensures.value in
    let at : to_z w32 (of_z w32 c.line_number.result) ≡ pos c.loop-at.at = omega (arith, ints, line) in
    passed_next (is_of (listed c.args.kinds) c.args.self.now.kinds) (pos 0) c.loop-at.at c.loop-at.lines c.push_if.new.self c.has-held.result _ c.loop-at.invariant line
    (c.has-held.ensures ∙ ap (λ z. among (listed c.args.kinds) z) kind ∙ ap (λ l. is_of (listed c.args.kinds) c.args.self.now.kinds l) (sym at)) c.in_ok-push_if.ensures

pub returns : goal.returns
returns c =
    let all : c.loop-at.at ≡ length c.args.self.now.kinds = omega (arith, c.loop-at-test.false, c.loop-at.auto.at-end, c.len-at-end.ensures) in
    c.loop-at.invariant ∙ ap (λ n. passing (is_of (listed c.args.kinds) c.args.self.now.kinds) (pos 0) n) all
