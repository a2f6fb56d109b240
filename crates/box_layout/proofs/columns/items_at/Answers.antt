use Rattle.std.proofs.Common.{sym, subst}
use Rattle.part_rules.specs.Lists.{zipped}
use Rattle.placing.specs.Nodes.{bare}
use Rattle.inline_sizes.specs.Flexes.{IsChild}
use Rattle.placing.specs.declared.lined.Member.{Member}
use Rattle.box_layout.specs.FlexFrames.{member_item}
use Rattle.box_layout.proofs.FlexAlike.{pair_step}
use Rattle.box_layout.proofs.columns.items_at.Goals as goal

pub member_item-item-requires-clause-child : goal.member_item-item-requires-clause-child
member_item-item-requires-clause-child c =
    let Is : Member → Type 0 = IsChild (bare c.args.tree.now.tree) c.args.id in
    subst Is (sym c.index-members-index.is) (c.requires.members.children c.loop-index.index _ c.loop-index-test.true)

pub loop-index-preserved : goal.loop-index-preserved
loop-index-preserved c =
    let f = member_item (bare c.args.tree.now.tree) c.args.height in
    pair_step _ _ f c.args.members.now c.args.blocks.now c.loop-index.index c.index-members-index.result c.index-blocks-index.result c.member_item-item.result c.loop-index.items.items c.extend_from_slice.new.self.items (zipped f c.args.members.now c.args.blocks.now)
    c.loop-index-test.true c.requires.counted c.index-members-index.is c.index-blocks-index.is c.member_item-item.ensures c.in_ok-extend_from_slice.ensures.items c.loop-index.invariant
