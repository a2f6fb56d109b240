use Rattle.std.proofs.Common.{◌∙◌, ℤ, ◌+ℤ◌, []}
use Rattle.lunit.specs.Units.{clamp}
use Rattle.placing.specs.Nodes.{bare, kid_at}
use Rattle.tree_rules.specs.FlexSizes.{cross_grid}
use Rattle.tree_rules.specs.Labels.{ContentStyle, GridStyle}
use Rattle.tree_rules.specs.NodeSizes.{margins}
use Rattle.tree_rules.specs.declared.kind.NodeKind.TheVariants as kind
use Rattle.box_layout.proofs.FlexAlike.{by_style}
use Rattle.box_layout.proofs.flexes.member_outer.Goals as goal

pub returns : goal.returns
returns c =
    let f : GridStyle → ContentStyle → ℤ = λ g k. clamp (c.args.own +ℤ margins (cross_grid c.args.column (record { name = []; kind = kind.Flex; grid = g; content = k }))) in
    c.outer_cross.ensures ∙ by_style f c.style_of-style.result.now (kid_at (bare c.args.tree.now.tree) c.args.member.now.child).label c.style_of-style.ensures.has
