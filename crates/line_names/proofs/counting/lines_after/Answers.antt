use Rattle.std.proofs.Common.{arith, rules, ap, ◌∙◌, ◌≡◌, ◌+ℤ◌, pos, to_z, of_z, w64}
use Rattle.std.proofs.lemmas.Int.{ints, to_z-of_z}
use Rattle.line_names.specs.Levels.{told_from}
use Rattle.line_names.specs.LineLists.{listed}
use Rattle.line_names.proofs.Told.{told_after}
use Rattle.line_names.proofs.counting.lines_after.Goals as goal

pub returns : goal.returns
returns c =
    let line : to_z w64 (of_z w64 c.args.line) ≡ c.args.line = to_z-of_z w64 c.args.line c.ranges.line in
    let next : to_z w64 (of_z w64 c.after.result) ≡ c.args.line +ℤ pos 1 = to_z-of_z w64 c.after.result (search rules) ∙ c.after.ensures.value ∙ ap (λ z. z +ℤ pos 1) line in
    let far : to_z w64 (of_z w64 c.from_base.result) ≡ (c.args.line +ℤ c.args.lines.base.line) +ℤ pos 1 = omega (arith, ints, next, to_z-of_z w64 c.from_base.result (search rules), c.from_base.ensures.value) in
    ap (λ ls. told_from c.args.lines.base.line ls) c.from.ensures ∙ told_after c.args.lines.base.line (listed c.args.lines.lines) c.args.line _ far
