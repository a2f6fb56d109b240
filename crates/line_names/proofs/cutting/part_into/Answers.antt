use Rattle.std.proofs.Common.{sym, ap, ◌∙◌, ◌++◌}
use Rattle.std.proofs.lemmas.Result.{on_ok_weaker}
use Rattle.line_names.proofs.Edges.{part_none, part_some}
use Rattle.line_names.proofs.cutting.part_into.Goals as goal

pub returns-then-lies_in : goal.returns-then-lies_in
returns-then-lies_in c = part_none c.args.span c.args.area.now c.args.out.now (sym c.lies_in.ensures ∙ c.if-lies_in.true)

pub returns : goal.returns
returns c = on_ok_weaker c.cut_into.result (λ e. e ∙ ap (λ xs. c.args.out.now ++ xs) (part_some c.args.span c.args.area.now (sym c.lies_in.ensures ∙ c.if-lies_in.false))) c.cut_into.ensures
