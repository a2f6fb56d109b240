use Rattle.std.proofs.Common.{arith, sym, subst}
use Rattle.placing.specs.Nodes.{bare}
use Rattle.inline_sizes.specs.Flexes.{IsChild}
use Rattle.placing.specs.declared.lined.Member.{Member}
use Rattle.box_layout.specs.FlexFrames.{member_sitting, zipped3}
use Rattle.box_layout.proofs.FlexAlike.{triple_step, units_step}
use Rattle.box_layout.proofs.flexes.sittings.Goals as goal

pub member_sitting-child-requires-clause-child : goal.member_sitting-child-requires-clause-child
member_sitting-child-requires-clause-child c =
    let Is : Member → Type 0 = IsChild (bare c.args.tree.now.tree) c.args.id in
    subst Is (sym c.index-members-index.is) (c.requires.members.children c.loop-index.index _ c.loop-index-test.true)

pub loop-index-preserved : goal.loop-index-preserved
loop-index-preserved c =
    let f = member_sitting (bare c.args.tree.now.tree) c.args.id c.args.flex.now.column c.args.flex.now.cross in
    record {
      so_far =
          triple_step _ _ _ f c.args.members.now c.args.mains.now c.args.crosses.now c.loop-index.index c.index-members-index.result c.index-mains-index.result c.index-crosses-index.result c.member_sitting-child.result c.loop-index.children.items c.extend_from_slice.new.self.items
          (zipped3 f c.args.members.now c.args.mains.now c.args.crosses.now) c.loop-index-test.true c.requires.mains c.requires.counted c.index-members-index.is c.index-mains-index.is c.index-crosses-index.is c.member_sitting-child.ensures.value c.in_ok-extend_from_slice.ensures.items
          c.loop-index.invariant.so_far;
      units = units_step _ c.args.mains.now c.loop-index.index c.index-mains-index.result (omega (arith, c.loop-index-test.true, c.requires.mains)) c.index-mains-index.is c.loop-index.invariant.units c.member_sitting-child.ensures.units;
    }
