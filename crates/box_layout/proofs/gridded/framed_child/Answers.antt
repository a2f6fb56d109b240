use Rattle.std.proofs.Common.{◌+◌, ◌∙◌, ap, drop, sym}
use Rattle.placing.specs.Areas.{entries_at}
use Rattle.placing.specs.declared.wide.GridBase.{GridBase}
use Rattle.tree_rules.specs.GridSizes.{from_first}
use Rattle.tree_rules.specs.Labels.{GridStyle}
use Rattle.tree_rules.specs.NodeSizes.{inner_start}
use Rattle.box_layout.proofs.ChildFrames.{framed_here}
use Rattle.box_layout.specs.Tracked.{nodes_in}
use Rattle.box_layout.proofs.gridded.framed_child.Goals as goal

pub frame_over_from-requires-clause-x : goal.frame_over_from-requires-clause-x
frame_over_from-requires-clause-x c = c.requires.x ∙ ap (λ (g : GridStyle). inner_start g.columns) (sym c.node_at-container.ensures.grid)

pub frame_over_from-requires-clause-y : goal.frame_over_from-requires-clause-y
frame_over_from-requires-clause-y c = c.requires.y ∙ ap (λ (g : GridStyle). inner_start g.rows) (sym c.node_at-container.ensures.grid)

pub returns-clause-frame : goal.returns-clause-frame
returns-clause-frame c =
    framed_here (nodes_in c.args.grid.now) c.args.grid.now.id c.args.grid.now.reps.now c.args.grid.now.width.now c.args.grid.now.wide.now c.requires.grid.wide c.args.index c.child_over-entry.result
    (drop (c.args.index + 1) (entries_at (nodes_in c.args.grid.now) c.args.grid.now.id c.args.grid.now.wide.now.parts.base.placed)) c.child_over-entry.ensures.next
    c.args.grid.now.rows.now c.node_at-container.result.now.style c.node_at-node.result.now.style c.shares-shared.result.0 c.shares-shared.result.1 c.wide_child_at-child.result.now c.from_first-columns.result c.from_first-across.result c.child_over-entry.ensures.entry
    c.node_at-container.ensures.grid c.node_at-container.ensures.content c.node_at-node.ensures.grid c.node_at-node.ensures.content c.shares-shared.ensures.columns c.shares-shared.ensures.rows c.wide_child_at-child.ensures
    (c.from_first-columns.ensures.value ∙ ap (λ (base : GridBase). from_first base.placed.columns c.child_over-entry.result.area.columns) c.grid-base.ensures)
    (c.from_first-across.ensures.value ∙ ap (λ (base : GridBase). from_first base.placed.rows c.child_over-entry.result.area.rows) c.grid-base.ensures)
    c.frame_over_from.result c.frame_over_from.ensures.child c.frame_over_from.ensures.value
