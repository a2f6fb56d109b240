use Rattle.std.proofs.Common.{◌∙◌, Some, false, refl}
use Rattle.placing.specs.Members.{TellsAlong}
use Rattle.placing.specs.Nodes.{bare, kid_at, sight_at}
use Rattle.placing.proofs.Stale.{some_holds}
use Rattle.inline_sizes.specs.Flexes.{member_of}
use Rattle.block_sizes.proofs.KnownAlong.{row_known}
use Rattle.block_sizes.proofs.Settled.{item_by}
use Rattle.block_sizes.proofs.flex.row_item.Goals as goal

pub returns-in-Some : goal.returns-in-Some
returns-in-Some c =
    let b = bare c.args.tree.now.tree in
    let x = (sight_at b c.args.id).label in
    let k = kid_at b c.args.member.now.child in
    row_known x c.args.width k c.in-Some.last (member_of b c.args.member.now) c.requires.direction (some_holds (TellsAlong x c.args.width k) c.args.last c.in-Some.last c.in-Some.last c.in-Some.is refl c.requires.last) refl c.requires.inline

pub returns : goal.returns
returns c = c.flex_item.ensures ∙ (λ i. item_by false (Some c.args.width) (c.node_at.ensures.grid i) (c.node_at.ensures.content i) c.args.member.now.inline)
