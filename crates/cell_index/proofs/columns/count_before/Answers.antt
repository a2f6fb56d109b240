use Rattle.std.proofs.Common.{ap, ◌∙◌, ◌≡◌, pos, ◌-ℤ◌, take, drop, rules, to_z, of_z, w32, w64, SFits}
use Rattle.std.proofs.lemmas.Int.{to_z-of_z}
use Rattle.cell_index.proofs.Edges.{before_counted, from_counted}
use Rattle.cell_index.proofs.columns.count_before.Goals as goal

pub returns-clause-before : goal.returns-clause-before
returns-clause-before c =
    let fits : SFits w64 c.line_before.result = search rules in
    let e : to_z w64 (of_z w64 c.line_before.result) ≡ c.args.limit -ℤ pos 1 = to_z-of_z w64 c.line_before.result fits ∙ c.line_before.ensures ∙ ap (λ z. z -ℤ pos 1) (to_z-of_z w32 c.args.limit c.ranges.limit) in
    before_counted (take c.count_up_to.result c.args.edges.now) c.args.limit (to_z w64 (of_z w64 c.line_before.result)) e c.count_up_to.ensures.before

pub returns-clause-from : goal.returns-clause-from
returns-clause-from c =
    let fits : SFits w64 c.line_before.result = search rules in
    let e : to_z w64 (of_z w64 c.line_before.result) ≡ c.args.limit -ℤ pos 1 = to_z-of_z w64 c.line_before.result fits ∙ c.line_before.ensures ∙ ap (λ z. z -ℤ pos 1) (to_z-of_z w32 c.args.limit c.ranges.limit) in
    from_counted (drop c.count_up_to.result c.args.edges.now) c.args.limit (to_z w64 (of_z w64 c.line_before.result)) e c.count_up_to.ensures.after
