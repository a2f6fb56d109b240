use Rattle.std.proofs.Common.{rules, ◌≡◌, ap, ◌∙◌, ◌++◌, ◌∷◌, [], ℤ, drop, ◌+◌, w32}
use Rattle.std.specs.Prelude.{FitsSigned}
use Rattle.std.proofs.lemmas.Int.{to_z-of_z}
use Rattle.placing.specs.Areas.{orders_at}
use Rattle.placing.specs.Nodes.{bare, kid_at, kids_at}
use Rattle.placing.proofs.Siblings.{orders_step}
use Rattle.placing.proofs.placement.orders.Goals as goal

pub loop-index-preserved : goal.loop-index-preserved
loop-index-preserved c =
    let b = bare c.args.tree.now.tree in
    let kids = kids_at b c.args.id in
    let same : c.order.result ≡ (kid_at b c.child_among-child.result).label.grid.order = search rules in
    let fits : FitsSigned w32 c.order.result = search rules in
    orders_step kids (drop (c.loop-index.index + 1) kids) c.loop-index.index c.loop-index.orders.items c.push.new.self.items (orders_at b c.args.id) (kid_at b c.child_among-child.result) c.order.result
    c.loop-index.invariant c.child_among-child.ensures.kids (c.in_ok-push.ensures.items ∙ ap (λ (x : ℤ). c.loop-index.orders.items ++ x ∷ []) (to_z-of_z w32 c.order.result fits)) same
