use Rattle.std.proofs.Common.{sym, subst}
use Rattle.placing.specs.Nodes.{bare}
use Rattle.inline_sizes.specs.Flexes.{IsChild}
use Rattle.placing.specs.declared.lined.Member.{Member}
use Rattle.box_layout.specs.FlexFrames.{member_cross, zipped3}
use Rattle.box_layout.proofs.FlexAlike.{triple_step}
use Rattle.box_layout.proofs.flexes.own_crosses.Goals as goal

pub member_cross-size-requires-clause-child : goal.member_cross-size-requires-clause-child
member_cross-size-requires-clause-child c =
    let Is : Member → Type 0 = IsChild (bare c.args.tree.now.tree) c.args.id in
    subst Is (sym c.index-members-index.is) (c.requires.members.children c.loop-index.index _ c.loop-index-test.true)

pub loop-index-preserved : goal.loop-index-preserved
loop-index-preserved c =
    let f = member_cross (bare c.args.tree.now.tree) c.args.column c.args.cross in
    triple_step _ _ _ f c.args.members.now c.args.boxes.now c.args.blocks.now c.loop-index.index c.index-members-index.result c.index-boxes-index.result c.index-blocks-index.result c.member_cross-size.result c.loop-index.sizes.items c.push.new.self.items
    (zipped3 f c.args.members.now c.args.boxes.now c.args.blocks.now) c.loop-index-test.true c.requires.boxes c.requires.blocks c.index-members-index.is c.index-boxes-index.is c.index-blocks-index.is c.member_cross-size.ensures c.in_ok-push.ensures.items c.loop-index.invariant
