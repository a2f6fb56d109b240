use Rattle.std.proofs.Common.{sym}
use Rattle.placing.specs.Nodes.{bare}
use Rattle.inline_sizes.proofs.Grids.{based}
use Rattle.inline_sizes.proofs.grid.base_by.Goals as goal

pub returns : goal.returns
returns c = λ outer width many counts seat.
    based (bare c.args.tree.now.tree) c.args.id outer width c.in_ok-context.context c.in_ok-placed.placed c.args.counts many counts (c.in_ok-context.ensures.seat _ _ (sym c.node_at.ensures.grid) seat) c.in_ok-placed.ensures
