use Rattle.std.proofs.Common.{◌∙◌, None, true}
use Rattle.placing.specs.Nodes.{bare, kid_at, sight_at}
use Rattle.block_sizes.proofs.KnownAlong.{item_known}
use Rattle.block_sizes.proofs.Settled.{item_by}
use Rattle.block_sizes.proofs.flex.column_item.Goals as goal

pub returns-in-Some : goal.returns-in-Some
returns-in-Some c =
    let b = bare c.args.tree.now.tree in
    item_known (sight_at b c.args.id).label c.args.width (kid_at b c.args.member.now.child) c.args.last c.args.block c.in-Some.item c.requires.direction c.in-Some.ensures c.requires.last

pub returns : goal.returns
returns c = c.flex_item.ensures ∙ (λ i. item_by true None (c.node_at.ensures.grid i) (c.node_at.ensures.content i) (c.args.block, c.args.block))
