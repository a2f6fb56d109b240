use Rattle.std.proofs.Common.{◌∙◌}
use Rattle.tree_rules.specs.LentItems.{child_item}
use Rattle.inline_sizes.proofs.children.own_item.Goals as goal

pub returns : goal.returns
returns c =
    c.child_item.ensures
    ∙ (λ i. child_item (c.column_levels.ensures i) (c.node_at.ensures.content i).border_box (c.node_at.ensures.content i).scrolls (c.node_at.ensures.grid i).columns (c.node_at.ensures.content i).inline c.args.entry.area.columns (c.args.low, c.args.high))
