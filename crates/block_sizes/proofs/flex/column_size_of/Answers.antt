use Rattle.std.proofs.Common.{◌≤ℤ◌, ◌∙◌, refl, subst, sym}
use Rattle.placing.specs.Members.{TellsAlong}
use Rattle.placing.specs.Nodes.{bare, kid_at, sight_at}
use Rattle.placing.proofs.Stale.{some_holds}
use Rattle.tree_rules.specs.Labels.{GridStyle}
use Rattle.tree_rules.specs.NodeSizes.{inner}
use Rattle.inline_sizes.proofs.InRange.{inner_units}
use Rattle.inline_sizes.specs.Flexes.{member_of}
use Rattle.block_sizes.proofs.KnownAlong.{box_room, size_known}
use Rattle.block_sizes.proofs.Settled.{box_by}
use Rattle.block_sizes.proofs.flex.column_size_of.Goals as goal

pub returns-in-Some-clause-value : goal.returns-in-Some-clause-value
returns-in-Some-clause-value c =
    let b = bare c.args.tree.now.tree in
    let x = (sight_at b c.args.id).label in
    let k = kid_at b c.args.member.now.child in
    size_known x c.args.width k c.in-Some.last (member_of b c.args.member.now) c.requires.direction (some_holds (TellsAlong x c.args.width k) c.args.last c.in-Some.last c.in-Some.last c.in-Some.is refl c.requires.last) refl c.requires.inline

pub returns-in-Some-clause-least : goal.returns-in-Some-clause-least
returns-in-Some-clause-least c =
    let b = bare c.args.tree.now.tree in
    let x = (sight_at b c.args.id).label in
    let k = kid_at b c.args.member.now.child in
    subst (λ z. inner k.label.grid.columns ≤ℤ z)
    (sym (size_known x c.args.width k c.in-Some.last (member_of b c.args.member.now) c.requires.direction (some_holds (TellsAlong x c.args.width k) c.args.last c.in-Some.last c.in-Some.last c.in-Some.is refl c.requires.last) refl c.requires.inline))
    (box_room x c.args.width (member_of b c.args.member.now) (inner_units k.label.grid.columns (c.requires.readable.nodes c.args.member.now.child c.requires.child).grid.columns))

pub returns-clause-value : goal.returns-clause-value
returns-clause-value c =
    c.column_box.ensures.value
    ∙ (λ i. box_by (c.node_at.ensures.grid i) (c.node_at.ensures.content i) (c.node_at-2.ensures.grid i) (c.node_at-2.ensures.content i) c.args.width c.args.member.now.inline)

pub returns-clause-least : goal.returns-clause-least
returns-clause-least c = subst (λ (g : GridStyle). inner g.columns ≤ℤ c.column_box.result) c.node_at-2.ensures.grid c.column_box.ensures.least
