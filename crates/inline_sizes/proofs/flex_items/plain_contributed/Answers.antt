use Rattle.tree_rules.specs.Labels.{content_of, grid_of}
use Rattle.inline_sizes.proofs.Plains.{plain_outside}
use Rattle.inline_sizes.proofs.flex_items.plain_contributed.Goals as goal

pub returns-clause-low : goal.returns-clause-low
returns-clause-low c =
    plain_outside (grid_of c.args.style.now).columns (content_of c.args.style.now).inline c.requires (content_of c.args.style.now).border_box c.args.content.0 c.plain_contributions.result.0 c.plain_contributions.ensures.low

pub returns-clause-high : goal.returns-clause-high
returns-clause-high c =
    plain_outside (grid_of c.args.style.now).columns (content_of c.args.style.now).inline c.requires (content_of c.args.style.now).border_box c.args.content.1 c.plain_contributions.result.1 c.plain_contributions.ensures.high
