use Rattle.std.proofs.Common.{◌∙◌}
use Rattle.placing.specs.Nodes.{bare}
use Rattle.tree_rules.specs.Labels.{content_of, grid_of}
use Rattle.block_sizes.proofs.Blocks.{column_made}
use Rattle.block_sizes.proofs.flex.column_size.Goals as goal

pub returns-clause-value : goal.returns-clause-value
returns-clause-value c =
    let style = c.node_at.result.now.style in
    c.column_block-size.ensures.value
    ∙ column_made (bare c.args.tree.now.tree) c.args.id c.args.width (grid_of style) (content_of style) c.deref.result.now c.args.parts.now.boxes c.node_at.ensures.grid c.node_at.ensures.content (c.deref.ensures.value ∙ c.in_ok-items.ensures) c.requires.column.across
