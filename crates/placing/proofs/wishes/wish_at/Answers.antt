use Rattle.std.proofs.Common.{sym, ap, ◌∙◌, drop, ◌+◌}
use Rattle.tree_rules.specs.Chains.{sibling_of}
use Rattle.tree_rules.specs.Contexts.{wish_of}
use Rattle.tree_rules.specs.Labels.{Label}
use Rattle.placing.specs.Nodes.{bare, kid_at, kids_at}
use Rattle.placing.specs.Seats.{context_of}
use Rattle.placing.proofs.Siblings.{sibling_there}
use Rattle.placing.proofs.wishes.wish_at.Goals as goal

pub returns-clause-value : goal.returns-clause-value
returns-clause-value c =
    let b = bare c.args.tree.now.tree in
    let kids = kids_at b c.args.id in
    c.wish.ensures.value
    ∙ ap (λ (x : Label). wish_of (context_of c.args.context.now) (sibling_of x)) c.node_at.ensures.label
    ∙ ap (wish_of (context_of c.args.context.now)) (sym (sibling_there kids (drop (c.args.number + 1) kids) c.args.number (kid_at b c.child_among-child.result) c.child_among-child.ensures.kids))
