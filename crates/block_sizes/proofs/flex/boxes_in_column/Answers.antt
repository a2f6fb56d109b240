use Rattle.std.proofs.Common.{ap, arith, subst, sym, ◌∙◌, map}
use Rattle.placing.specs.Nodes.{bare}
use Rattle.tree_rules.specs.FlexSizes as rules
use Rattle.tree_rules.specs.Labels.{Label}
use Rattle.inline_sizes.specs.Flexes.{IsChild, flex_seen, member_of}
use Rattle.block_sizes.proofs.KnownAlong.{member_inline}
use Rattle.block_sizes.proofs.Settled.{flex_label, mapped_all, mapped_step, roomy_all, roomy_step}
use Rattle.block_sizes.proofs.flex.boxes_in_column.Goals as goal

pub known_of-last-requires-clause-child : goal.known_of-last-requires-clause-child
known_of-last-requires-clause-child c = subst (IsChild (bare c.args.tree.now.tree) c.args.id) (sym c.index-members-index.is) (c.requires.members.children c.loop-index.index _ c.loop-index-test.true)

pub column_size_of-requires-clause-child : goal.column_size_of-requires-clause-child
column_size_of-requires-clause-child c = (subst (IsChild (bare c.args.tree.now.tree) c.args.id) (sym c.index-members-index.is) (c.requires.members.children c.loop-index.index _ c.loop-index-test.true)).live

pub column_size_of-requires-clause-inline : goal.column_size_of-requires-clause-inline
column_size_of-requires-clause-inline c = member_inline (bare c.args.tree.now.tree) c.args.id c.args.members.now c.loop-index.index c.index-members-index.result c.requires.members c.loop-index-test.true c.index-members-index.is

pub loop-index-preserved : goal.loop-index-preserved
loop-index-preserved c =
    let b = bare c.args.tree.now.tree in
    let x = c.index-members-index.result in
    record {
      so_far = mapped_step (rules.column_box (flex_seen b c.args.id).label c.args.width) (member_of b) c.args.members.now c.loop-index.index x c.loop-index.boxes _ c.column_size_of.result
          c.loop-index-test.true c.index-members-index.is c.loop-index.invariant.so_far c.in_ok-push.ensures.ok
          (c.column_size_of.ensures.value ∙ ap (λ (l : Label). rules.column_box l c.args.width (member_of b x)) (flex_label b c.args.id));
      roomy = roomy_step b c.args.members.now c.loop-index.index x c.loop-index.boxes _ c.column_size_of.result
          c.loop-index-test.true c.index-members-index.is c.loop-index.invariant.roomy c.in_ok-push.ensures.ok c.column_size_of.ensures.least;
    }

pub returns-clause-value : goal.returns-clause-value
returns-clause-value c =
    let b = bare c.args.tree.now.tree in
    mapped_all (rules.column_box (flex_seen b c.args.id).label c.args.width) (member_of b) c.args.members.now c.loop-index.index c.loop-index.boxes (omega (arith, c.loop-index-test.false)) c.loop-index.invariant.so_far
    ∙ ap (map (rules.column_box (flex_seen b c.args.id).label c.args.width)) c.requires.members.same

pub returns-clause-roomy : goal.returns-clause-roomy
returns-clause-roomy c = roomy_all (bare c.args.tree.now.tree) c.args.id c.args.members.now c.loop-index.index c.loop-index.boxes (omega (arith, c.loop-index-test.false)) c.requires.members.same c.loop-index.invariant.roomy
