use Rattle.std.proofs.Common.{sym, ap, ◌∙◌, arith, is_some}
use Rattle.placing.specs.Nodes.{bare}
use Rattle.placing.proofs.Bares.{child_bare, count_bare, distinct_bare}
use Rattle.placing.proofs.Sights.{child_some, count_kids, next_there}
use Rattle.placing.proofs.Walks.{step_there}
use Rattle.placing.proofs.sight.child.Goals as goal

pub unwrap-requires : goal.unwrap-requires
unwrap-requires c =
    ap is_some c.child.ensures.number ∙ child_some c.args.tree.now.tree c.args.id c.args.index (omega (arith, c.requires, count_kids (bare c.args.tree.now.tree) c.args.id, count_bare c.args.tree.now.tree c.args.id))

pub returns-clause-next : goal.returns-clause-next
returns-clause-next c =
    next_there (bare c.args.tree.now.tree) (distinct_bare c.args.tree.now.tree c.stands.ensures.sound.distinct) c.args.id c.unwrap.result c.args.index
    (child_bare c.args.tree.now.tree c.args.id c.args.index ∙ sym c.child.ensures.number ∙ c.unwrap.ensures)

pub returns-clause-step : goal.returns-clause-step
returns-clause-step c =
    step_there (bare c.args.tree.now.tree) c.args.id c.unwrap.result c.args.index
    (next_there (bare c.args.tree.now.tree) (distinct_bare c.args.tree.now.tree c.stands.ensures.sound.distinct) c.args.id c.unwrap.result c.args.index
    (child_bare c.args.tree.now.tree c.args.id c.args.index ∙ sym c.child.ensures.number ∙ c.unwrap.ensures))
