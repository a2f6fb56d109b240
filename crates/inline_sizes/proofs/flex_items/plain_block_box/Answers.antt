use Rattle.tree_rules.specs.Labels.{content_of, grid_of}
use Rattle.inline_sizes.proofs.Plains.{plain_across}
use Rattle.inline_sizes.proofs.flex_items.plain_block_box.Goals as goal

pub returns : goal.returns
returns c =
    plain_across (grid_of c.args.style.now).rows (content_of c.args.style.now).block c.requires c.args.cross (content_of c.args.style.now).border_box c.default.result c.args.block c.plain_block.result c.default.ensures c.plain_block.ensures.value
