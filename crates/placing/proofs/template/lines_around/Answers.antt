use Rattle.std.proofs.Common.{ap, ◌∙◌, List}
use Rattle.tree_rules.specs.Templates.{Names, seamed}
use Rattle.placing.proofs.Seams.{names_joined}
use Rattle.placing.proofs.template.lines_around.Goals as goal

pub returns : goal.returns
returns c =
    c.kept_lines.ensures
    ∙ names_joined c.args.before.now c.args.repeated.now c.args.after.now c.join.new.lines c.join_repeated.new.lines c.join-2.new.lines c.args.count (c.in_ok-join.ensures ∙ ap (λ (r : List Names). seamed r c.args.before.now) c.new-lines.ensures) c.in_ok-join_repeated.ensures c.in_ok-join-2.ensures
