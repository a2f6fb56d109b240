use Rattle.std.proofs.Common.{◌∙◌, ap, length, subst, sym, Some, false}
use Rattle.placing.specs.Told.{AreToldAlong}
use Rattle.tree_rules.specs.FlexSizes as rules
use Rattle.inline_sizes.specs.Flexes.{flex_seen}
use Rattle.walker.specs.Walkers.{nodes}
use Rattle.block_sizes.specs.Settling.{alongs, block_of, settled_seen}
use Rattle.block_sizes.proofs.Blocks.{row_counted}
use Rattle.block_sizes.proofs.KnownAlong.{row_kept}
use Rattle.block_sizes.proofs.Settled.{map_length, seen_length, settled_length}
use Rattle.block_sizes.proofs.flex.keep_row.Goals as goal

pub all_along-requires-clause-sizes : goal.all_along-requires-clause-sizes
all_along-requires-clause-sizes g c =
    ap length c.as_slice-mains.ensures ∙ row_counted (nodes c.args.walk.now) c.args.id c.args.width c.args.parts.now.members c.args.parts.now.lines c.requires.row.children.same c.requires.row.along ∙ sym (ap length c.as_slice-members.ensures)

pub all_along-requires-clause-blocks : goal.all_along-requires-clause-blocks
all_along-requires-clause-blocks g c =
    let b = nodes c.args.walk.now in
    let parts = c.args.parts.now in
    ap length (c.as_slice-blocks.ensures ∙ c.requires.row.across) ∙ map_length block_of (settled_seen b c.args.id parts.lines.mains)
    ∙ settled_length b c.args.id parts.members parts.lines.mains c.requires.row.children.same (row_counted b c.args.id c.args.width parts.members parts.lines c.requires.row.children.same c.requires.row.along)
    ∙ sym (ap length c.as_slice-members.ensures)

pub all_along-requires-clause-items : goal.all_along-requires-clause-items
all_along-requires-clause-items g c =
    let b = nodes c.args.walk.now in
    ap length c.requires.items ∙ map_length (λ (m : rules.Member). rules.flex_item false (Some c.args.width) m.kid.label m.inline) (flex_seen b c.args.id).members
    ∙ seen_length b c.args.id c.args.parts.now.members c.requires.row.children.same ∙ sym (ap length c.as_slice-members.ensures)

pub keep_along-requires-clause-told : goal.keep_along-requires-clause-told
keep_along-requires-clause-told g c =
    let b = nodes c.args.walk.now in
    let parts = c.args.parts.now in
    let counted = row_counted b c.args.id c.args.width parts.members parts.lines c.requires.row.children.same c.requires.row.along in
    subst (AreToldAlong b c.args.id c.args.width) (sym (c.as_slice.ensures ∙ c.in_ok-told.ensures ∙ (λ i. alongs (c.as_slice-members.ensures i) (c.as_slice-mains.ensures i) (c.as_slice-blocks.ensures i) c.args.items.now)))
    (row_kept b c.args.id c.args.width parts c.args.items.now c.requires.direction c.requires.row counted
    (ap length c.requires.row.across ∙ map_length block_of (settled_seen b c.args.id parts.lines.mains) ∙ settled_length b c.args.id parts.members parts.lines.mains c.requires.row.children.same counted)
    (ap length c.requires.items ∙ map_length (λ (m : rules.Member). rules.flex_item false (Some c.args.width) m.kid.label m.inline) (flex_seen b c.args.id).members ∙ seen_length b c.args.id parts.members c.requires.row.children.same)
    c.requires.items)
