use Rattle.std.proofs.Common.{sym, ap, ◌∙◌, length}
use Rattle.placing.specs.Nodes.{bare}
use Rattle.placing.proofs.Bares.{children_bare}
use Rattle.placing.proofs.Sights.{count_children, count_kids}
use Rattle.placing.proofs.sight.children.Goals as goal

pub returns-clause-list : goal.returns-clause-list
returns-clause-list c = c.children.ensures ∙ sym (children_bare c.args.tree.now.tree c.args.id)

pub returns-clause-count : goal.returns-clause-count
returns-clause-count c =
    ap length (c.children.ensures ∙ sym (children_bare c.args.tree.now.tree c.args.id)) ∙ count_children (bare c.args.tree.now.tree) c.args.id ∙ sym (count_kids (bare c.args.tree.now.tree) c.args.id)
