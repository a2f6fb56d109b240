use Rattle.std.proofs.Common.{sym, subst}
use Rattle.part_rules.specs.Lists.{zipped}
use Rattle.placing.specs.Nodes.{bare}
use Rattle.inline_sizes.specs.Flexes.{IsChild}
use Rattle.placing.specs.declared.lined.Member.{Member}
use Rattle.box_layout.specs.FlexFrames.{member_outer}
use Rattle.box_layout.proofs.FlexAlike.{pair_step}
use Rattle.box_layout.proofs.flexes.own_outers.Goals as goal

pub member_outer-size-requires-clause-child : goal.member_outer-size-requires-clause-child
member_outer-size-requires-clause-child c =
    let Is : Member → Type 0 = IsChild (bare c.args.tree.now.tree) c.args.id in
    subst Is (sym c.index-members-index.is) (c.requires.members.children c.loop-index.index _ c.loop-index-test.true)

pub loop-index-preserved : goal.loop-index-preserved
loop-index-preserved c =
    let f = member_outer (bare c.args.tree.now.tree) c.args.column in
    pair_step _ _ f c.args.members.now c.args.crosses.now c.loop-index.index c.index-members-index.result c.index-crosses-index.result c.member_outer-size.result c.loop-index.sizes.items c.push.new.self.items (zipped f c.args.members.now c.args.crosses.now) c.loop-index-test.true
    c.requires.counted c.index-members-index.is c.index-crosses-index.is c.member_outer-size.ensures c.in_ok-push.ensures.items c.loop-index.invariant
