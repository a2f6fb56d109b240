use Rattle.std.proofs.Common.{subst, sym}
use Rattle.inline_sizes.specs.Styled.{grid_at}
use Rattle.box_layout.specs.Ranges.{IsEdges}
use Rattle.box_layout.proofs.Rooms.{edges_start}
use Rattle.box_layout.proofs.grids.frame_over_from.Goals as goal

pub frame_from-requires-clause-before : goal.frame_from-requires-clause-before
frame_from-requires-clause-before c = subst IsEdges (sym c.requires.x) (edges_start (grid_at 0 c.args.container.now) c.requires.container.columns)

pub frame_from-requires-clause-above : goal.frame_from-requires-clause-above
frame_from-requires-clause-above c = subst IsEdges (sym c.requires.y) (edges_start (grid_at 1 c.args.container.now) c.requires.container.rows)
