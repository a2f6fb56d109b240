use Rattle.std.proofs.Common.{arith, ◌+◌, ◌^◌}
use Rattle.block_sizes.proofs.Seen.{spread_grows}
use Rattle.block_sizes.proofs.views.view_by.Goals as goal

pub returns-in_ok-view-in-Size-clause-spread : goal.returns-in_ok-view-in-Size-clause-spread
returns-in_ok-view-in-Size-clause-spread g c = λ by wider given.
    spread_grows (2 ^ 50 + 2 ^ 34) by c.in_ok-view-in-Size.view.edges (omega (arith, wider)) c.in_ok-view-in-Size.ensures.spread

pub returns-in_ok-view-in-None-clause-spread : goal.returns-in_ok-view-in-None-clause-spread
returns-in_ok-view-in-None-clause-spread g c = λ by wider given.
    spread_grows (2 ^ 50 + 2 ^ 34) by c.in_ok-view-in-None.view.edges (omega (arith, wider)) c.in_ok-view-in-None.ensures.spread
