use Rattle.std.proofs.Common.{sym, ◌∙◌}
use Rattle.placing.specs.Nodes.{bare}
use Rattle.placing.proofs.Bares.{count_bare}
use Rattle.placing.proofs.Sights.{count_children, count_kids}
use Rattle.placing.proofs.sight.count.Goals as goal

pub returns-clause-kids : goal.returns-clause-kids
returns-clause-kids c = c.count.ensures ∙ sym (count_kids (bare c.args.tree.now.tree) c.args.id ∙ count_bare c.args.tree.now.tree c.args.id)

pub returns-clause-children : goal.returns-clause-children
returns-clause-children c = c.count.ensures ∙ sym (count_children (bare c.args.tree.now.tree) c.args.id ∙ count_bare c.args.tree.now.tree c.args.id)
