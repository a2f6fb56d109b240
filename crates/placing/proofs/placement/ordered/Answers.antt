use Rattle.std.proofs.Common.{◌∙◌, refl}
use Rattle.placing.specs.Areas.{orders_at}
use Rattle.placing.specs.Nodes.{bare, kids_at}
use Rattle.placing.proofs.Numbers.{count_order, within_order}
use Rattle.placing.proofs.Siblings.{all_below, orders_count}
use Rattle.placing.proofs.placement.ordered.Goals as goal

pub returns-clause-count : goal.returns-clause-count
returns-clause-count c =
    let b = bare c.args.tree.now.tree in
    count_order (orders_at b c.args.id) c.in_ok-numbers.numbers c.in_ok-numbers.ensures ∙ orders_count (kids_at b c.args.id) (orders_at b c.args.id) refl

pub returns-clause-within : goal.returns-clause-within
returns-clause-within c =
    let b = bare c.args.tree.now.tree in
    all_below (kids_at b c.args.id) (orders_at b c.args.id) c.in_ok-numbers.numbers refl (within_order (orders_at b c.args.id) c.in_ok-numbers.numbers c.in_ok-numbers.ensures)
