use Rattle.std.proofs.Common.{rules, ap, sym, ◌∙◌, ◌≡◌, ◌+ℤ◌, pos, to_z, of_z, w32}
use Rattle.std.proofs.lemmas.Int.{to_z-of_z}
use Rattle.line_names.specs.Levels.{either}
use Rattle.line_names.specs.LineLists.{listed}
use Rattle.line_names.proofs.LineLists.{passed_before, passed_next}
use Rattle.line_names.proofs.levels.joined.Goals as goal

pub push_if-requires-clause-last : goal.push_if-requires-clause-last
push_if-requires-clause-last c =
    let line : to_z w32 (of_z w32 c.line_of-line.result) ≡ c.args.base.line +ℤ pos c.loop-at.at = to_z-of_z w32 c.line_of-line.result (search rules) ∙ c.line_of-line.ensures in
    passed_before (either (listed c.args.own) (listed c.args.above) c.args.base.line) c.args.base.line c.loop-at.at c.loop-at.lines _ c.loop-at.invariant line

pub loop-at-preserved : goal.loop-at-preserved
loop-at-preserved c =
    let line : to_z w32 (of_z w32 c.line_of-line.result) ≡ c.args.base.line +ℤ pos c.loop-at.at = to_z-of_z w32 c.line_of-line.result (search rules) ∙ c.line_of-line.ensures in
    let held : c.is_either.result ≡ either (listed c.args.own) (listed c.args.above) c.args.base.line (to_z w32 (of_z w32 c.line_of-line.result)) =
    c.is_either.ensures ∙ ap (λ z. either (listed c.args.own) (listed c.args.above) c.args.base.line z) (sym line) in
    passed_next (either (listed c.args.own) (listed c.args.above) c.args.base.line) c.args.base.line c.loop-at.at c.loop-at.lines c.push_if.new.self c.is_either.result _ c.loop-at.invariant line held c.in_ok-push_if.ensures
