use Rattle.std.proofs.Common.{◌∙◌, ℤ, Some, pos, false, if◌then◌else◌}
use Rattle.placing.specs.Nodes.{bare, kid_at}
use Rattle.tree_rules.specs.Labels.{ContentStyle, GridStyle}
use Rattle.tree_rules.specs.NodeSizes.{block_used, bounds_of}
use Rattle.box_layout.proofs.FlexAlike.{by_style}
use Rattle.box_layout.proofs.flexes.member_cross.Goals as goal

pub returns : goal.returns
returns c =
    let f : GridStyle → ContentStyle → ℤ = λ g k. if c.args.column then c.args.inline else block_used (bounds_of (Some c.args.cross) k.border_box g.rows k.block) false (pos 0) (pos 0) c.args.block in
    c.cross_box.ensures ∙ by_style f c.style_of-style.result.now (kid_at (bare c.args.tree.now.tree) c.args.member.now.child).label c.style_of-style.ensures.has
