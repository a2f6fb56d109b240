use Rattle.std.proofs.Common.{◌∙◌, None, ap, length, subst, sym}
use Rattle.placing.specs.Told.{AreToldAlong}
use Rattle.tree_rules.specs.FlexSizes as rules
use Rattle.walker.specs.Walkers.{nodes}
use Rattle.block_sizes.specs.Settling.{alongs, block_of, settled_seen}
use Rattle.block_sizes.proofs.KnownAlong.{column_counted, column_kept}
use Rattle.block_sizes.proofs.Settled.{map_length, settled_length}
use Rattle.block_sizes.proofs.flex.keep_column.Goals as goal

pub all_along-requires-clause-sizes : goal.all_along-requires-clause-sizes
all_along-requires-clause-sizes g c = ap length c.as_slice-boxes.ensures ∙ column_counted (nodes c.args.walk.now) c.args.id c.args.width c.args.parts.now c.requires.column ∙ sym (ap length c.as_slice-members.ensures)

pub all_along-requires-clause-blocks : goal.all_along-requires-clause-blocks
all_along-requires-clause-blocks g c =
    let b = nodes c.args.walk.now in
    let parts = c.args.parts.now in
    ap length (c.as_slice-blocks.ensures ∙ c.requires.column.along) ∙ map_length block_of (settled_seen b c.args.id parts.boxes)
    ∙ settled_length b c.args.id parts.members parts.boxes c.requires.column.children.same (column_counted b c.args.id c.args.width parts c.requires.column) ∙ sym (ap length c.as_slice-members.ensures)

pub all_along-requires-clause-items : goal.all_along-requires-clause-items
all_along-requires-clause-items g c =
    let b = nodes c.args.walk.now in
    let parts = c.args.parts.now in
    ap length c.requires.items ∙ map_length (rules.column_item None) (settled_seen b c.args.id parts.boxes)
    ∙ settled_length b c.args.id parts.members parts.boxes c.requires.column.children.same (column_counted b c.args.id c.args.width parts c.requires.column) ∙ sym (ap length c.as_slice-members.ensures)

pub keep_along-requires-clause-told : goal.keep_along-requires-clause-told
keep_along-requires-clause-told g c =
    let b = nodes c.args.walk.now in
    let parts = c.args.parts.now in
    let counted = column_counted b c.args.id c.args.width parts c.requires.column in
    let settled = settled_length b c.args.id parts.members parts.boxes c.requires.column.children.same counted in
    subst (AreToldAlong b c.args.id c.args.width) (sym (c.as_slice.ensures ∙ c.in_ok-told.ensures ∙ (λ i. alongs (c.as_slice-members.ensures i) (c.as_slice-boxes.ensures i) (c.as_slice-blocks.ensures i) c.args.items.now)))
    (column_kept b c.args.id c.args.width parts c.args.items.now c.requires.direction c.requires.column counted
    (ap length c.requires.column.along ∙ map_length block_of (settled_seen b c.args.id parts.boxes) ∙ settled)
    (ap length c.requires.items ∙ map_length (rules.column_item None) (settled_seen b c.args.id parts.boxes) ∙ settled) c.requires.items)
