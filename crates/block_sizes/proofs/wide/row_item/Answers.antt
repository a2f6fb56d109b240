use Rattle.std.proofs.Common.{◌∙◌}
use Rattle.tree_rules.specs.LentItems.{child_item}
use Rattle.block_sizes.proofs.wide.row_item.Goals as goal

pub returns : goal.returns
returns c =
    c.child_item.ensures
    ∙ (λ i. child_item (c.row_levels.ensures i) (c.node_at.ensures.content i).border_box (c.node_at.ensures.content i).scrolls (c.node_at.ensures.grid i).rows (c.node_at.ensures.content i).block c.args.entry.area.rows (c.args.block, c.args.block))
