use Rattle.std.proofs.Common.{◌∙◌, true, Some, []}
use Rattle.part_rules.specs.declared.flex.FlexItem.{FlexItem}
use Rattle.placing.specs.Nodes.{bare, kid_at}
use Rattle.tree_rules.specs.FlexSizes.{flex_item}
use Rattle.tree_rules.specs.Labels.{ContentStyle, GridStyle}
use Rattle.tree_rules.specs.declared.kind.NodeKind.TheVariants as kind
use Rattle.box_layout.proofs.FlexAlike.{by_style}
use Rattle.box_layout.proofs.columns.member_item.Goals as goal

pub returns : goal.returns
returns c =
    let f : GridStyle → ContentStyle → FlexItem = λ g k. flex_item true (Some c.args.height) (record { name = []; kind = kind.Flex; grid = g; content = k }) (c.args.block, c.args.block) in
    c.flex_item.ensures ∙ by_style f c.style_of-style.result.now (kid_at (bare c.args.tree.now.tree) c.args.member.now.child).label c.style_of-style.ensures.has
