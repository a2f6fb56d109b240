use Rattle.std.proofs.Common.{◌≡◌, ◌∙◌, ap, subst, sym, ℕ, ℤ, length, false, None}
use Rattle.std.specs.Prelude.{IfOk}
use Rattle.flex_lines.specs.Lines.{AreRanges}
use Rattle.placing.specs.Nodes.{bare}
use Rattle.tree_rules.specs.FlexSizes as rules
use Rattle.tree_rules.specs.Labels.{content_of, grid_of}
use Rattle.block_sizes.specs.Settling.{settled_seen}
use Rattle.block_sizes.proofs.Blocks.{row_counted, row_made}
use Rattle.block_sizes.proofs.Settled.{map_length, settled_length}
use Rattle.block_sizes.proofs.flex.row_size.Goals as goal

pub outers_in_row-requires-clause-counted : goal.outers_in_row-requires-clause-counted
outers_in_row-requires-clause-counted c =
    row_counted (bare c.args.tree.now.tree) c.args.id c.args.width c.args.parts.now.members c.args.parts.now.lines c.requires.row.children.same c.requires.row.along

pub row_block-requires : goal.row_block-requires
row_block-requires c =
    let b = bare c.args.tree.now.tree in
    let parts = c.args.parts.now in
    let counted : length parts.lines.mains ≡ length parts.members = row_counted b c.args.id c.args.width parts.members parts.lines c.requires.row.children.same c.requires.row.along in
    let count : length c.deref.result.now ≡ length parts.members =
    ap length (c.deref.ensures.value ∙ c.in_ok-outers.ensures) ∙ map_length (rules.outer_cross false None) (settled_seen b c.args.id parts.lines.mains) ∙ settled_length b c.args.id parts.members parts.lines.mains c.requires.row.children.same counted in
    subst (λ (k : ℕ). AreRanges k c.as_slice-ranges.result.now) (sym count) (subst (AreRanges (length parts.members)) (sym c.as_slice-ranges.ensures) c.requires.row.ranges)

pub returns : goal.returns
returns c =
    let style = c.node_at.result.now.style in
    subst (λ (z : ℤ). IfOk c.row_block.result (λ size. size ≡ z))
    (row_made (bare c.args.tree.now.tree) c.args.id c.args.width (grid_of style) (content_of style) c.deref.result.now c.as_slice-ranges.result.now c.args.parts.now.lines c.node_at.ensures.grid c.node_at.ensures.content (c.deref.ensures.value ∙ c.in_ok-outers.ensures)
    c.as_slice-ranges.ensures c.requires.row.along)
    c.row_block.ensures.value
