use Rattle.std.proofs.Common.{rules, ap, ◌∙◌, ◌≡◌, ◌+ℤ◌, to_z, of_z, w64}
use Rattle.std.proofs.lemmas.Int.{to_z-of_z}
use Rattle.line_names.specs.Levels.{told_from}
use Rattle.line_names.specs.LineLists.{listed}
use Rattle.line_names.proofs.Told.{told_back}
use Rattle.line_names.proofs.counting.lines_up_to.Goals as goal

pub returns-clause-value : goal.returns-clause-value
returns-clause-value c =
    let line : to_z w64 (of_z w64 c.args.line) ≡ c.args.line = to_z-of_z w64 c.args.line c.ranges.line in
    let far : to_z w64 (of_z w64 c.from_base.result) ≡ c.args.line +ℤ c.args.lines.base.line = to_z-of_z w64 c.from_base.result (search rules) ∙ c.from_base.ensures.value ∙ ap (λ z. z +ℤ c.args.lines.base.line) line in
    ap (λ ls. told_from c.args.lines.base.line ls) c.up_to.ensures ∙ told_back c.args.lines.base.line (listed c.args.lines.lines) c.args.line _ far
