use Rattle.std.proofs.Common.{◌∙◌, map}
use Rattle.placing.specs.Nodes.{bare}
use Rattle.tree_rules.specs.FlexSizes as rules
use Rattle.inline_sizes.specs.Flexes.{flex_seen, sizes_by}
use Rattle.inline_sizes.proofs.FlexMembers.{flex_label}
use Rattle.inline_sizes.proofs.FlexTold.{told_highs, told_lows}
use Rattle.inline_sizes.proofs.flex.flex_inline.Goals as goal

pub returns : goal.returns
returns c =
    let b = bare c.args.tree.now.tree in
    c.sizes_by.ensures
    ∙ (λ i. sizes_by (c.node_at.ensures.content i) (c.node_at.ensures.grid i)
    ((c.deref.ensures.value ∙ c.in_ok-lows.ensures.low ∙ told_lows b c.args.id c.root.ensures.tree c.args.told.now c.requires.told) i)
    ((c.deref-2.ensures.value ∙ c.in_ok-lows.ensures.high ∙ told_highs b c.args.id c.root.ensures.tree c.args.told.now c.requires.told) i))
    ∙ (λ i. sizes_by (flex_label b c.args.id i).content (flex_label b c.args.id i).grid
    (map (λ (m : rules.Member). rules.inline_contribution m m.inline.0) (flex_seen b c.args.id).members)
    (map (λ (m : rules.Member). rules.inline_contribution m m.inline.1) (flex_seen b c.args.id).members))
