use Rattle.std.proofs.Common.{◌∙◌, sym}
use Rattle.tree_rules.specs.Labels.{content_of}
use Rattle.inline_sizes.proofs.flex_items.plain_bounds.Goals as goal

pub returns : goal.returns
returns g c = c.none.ensures ∙ sym (c.requires.bounds c.args.main (content_of c.args.style.now).border_box)
