use Rattle.std.proofs.Common.{sym, ◌∙◌}
use Rattle.std.proofs.lemmas.Result.{IfOk-weaker}
use Rattle.line_names.specs.LineLists.{listed}
use Rattle.line_names.proofs.SetLists.{list_of_kind}
use Rattle.line_names.proofs.index.lines_by.Goals as goal

pub returns-in-Some-list_of : goal.returns-in-Some-list_of
returns-in-Some-list_of c =
    IfOk-weaker c.again.result _ _
    (λ all e. e ∙ list_of_kind c.args.lines.now c.args.lists.now c.in-Some.kind c.in-Some-list_of.list.now (listed c.args.kinds) c.requires.lists (sym c.in-Some-list_of.ensures) (c.in-Some.ensures))
    c.again.ensures
