use Rattle.std.proofs.Common.{sym, subst}
use Rattle.inline_sizes.specs.Styled.{grid_at}
use Rattle.box_layout.specs.Ranges.{IsEdges}
use Rattle.box_layout.proofs.Rooms.{edges_start}
use Rattle.box_layout.proofs.frames.edges_before.Goals as goal

pub returns-clause-range : goal.returns-clause-range
returns-clause-range g c = subst IsEdges (sym c.inner_start.ensures) (edges_start (grid_at g.row.AXIS c.args.parent.now) c.requires)
