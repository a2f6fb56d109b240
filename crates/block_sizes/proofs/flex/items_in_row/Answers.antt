use Rattle.std.proofs.Common.{ap, arith, subst, sym, ◌∙◌, false, map, Some}
use Rattle.lunit.specs.Units.{IsUnits}
use Rattle.part_rules.specs.declared.flex.FlexItem.{FlexItem}
use Rattle.placing.specs.Nodes.{bare, kid_at}
use Rattle.tree_rules.specs.FlexSizes as rules
use Rattle.inline_sizes.proofs.InRange.{inner_units}
use Rattle.inline_sizes.specs.Flexes.{IsChild, member_of}
use Rattle.block_sizes.specs.Flexes.{HaveInner}
use Rattle.block_sizes.proofs.KnownAlong.{member_inline}
use Rattle.block_sizes.proofs.Settled.{inner_more, mapped_all, mapped_step}
use Rattle.block_sizes.proofs.flex.items_in_row.Goals as goal

pub known_of-last-requires-clause-child : goal.known_of-last-requires-clause-child
known_of-last-requires-clause-child c = subst (IsChild (bare c.args.tree.now.tree) c.args.id) (sym c.index-members-index.is) (c.requires.members.children c.loop-index.index _ c.loop-index-test.true)

pub row_item-requires-clause-live : goal.row_item-requires-clause-live
row_item-requires-clause-live c = (subst (IsChild (bare c.args.tree.now.tree) c.args.id) (sym c.index-members-index.is) (c.requires.members.children c.loop-index.index _ c.loop-index-test.true)).live

pub row_item-requires-clause-inline : goal.row_item-requires-clause-inline
row_item-requires-clause-inline c = member_inline (bare c.args.tree.now.tree) c.args.id c.args.members.now c.loop-index.index c.index-members-index.result c.requires.members c.loop-index-test.true c.index-members-index.is

pub loop-index-preserved : goal.loop-index-preserved
loop-index-preserved c =
    let b = bare c.args.tree.now.tree in
    let x = c.index-members-index.result in
    let child : IsChild b c.args.id x = subst (IsChild b c.args.id) (sym c.index-members-index.is) (c.requires.members.children c.loop-index.index _ c.loop-index-test.true) in
    let units : IsUnits c.row_item.result.inner = subst IsUnits (sym (ap (λ (i : FlexItem). i.inner) c.row_item.ensures)) (inner_units (kid_at b x.child).label.grid.columns (c.requires.readable.nodes x.child child.live).grid.columns) in
    record {
      so_far = mapped_step (λ (m : rules.Member). rules.flex_item false (Some c.args.width) m.kid.label m.inline) (member_of b) c.args.members.now c.loop-index.index x c.loop-index.items.items _ c.row_item.result
          c.loop-index-test.true c.index-members-index.is c.loop-index.invariant.so_far c.in_ok-push.ensures.items c.row_item.ensures;
      inner = subst HaveInner (sym c.in_ok-push.ensures.items) (inner_more c.loop-index.items.items c.row_item.result c.loop-index.invariant.inner units);
    }

pub returns-clause-value : goal.returns-clause-value
returns-clause-value c =
    mapped_all (λ (m : rules.Member). rules.flex_item false (Some c.args.width) m.kid.label m.inline) (member_of (bare c.args.tree.now.tree)) c.args.members.now c.loop-index.index c.loop-index.items.items (omega (arith, c.loop-index-test.false)) c.loop-index.invariant.so_far
    ∙ ap (map (λ (m : rules.Member). rules.flex_item false (Some c.args.width) m.kid.label m.inline)) c.requires.members.same
