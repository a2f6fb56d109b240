use Rattle.std.proofs.Common.{drop}
use Rattle.grid_placement.proofs.Left.{LeftSoFar}
use Rattle.grid_placement.proofs.rest.place_rest.Given as goal

abbrev pub invariant-loop-entry : goal.invariant-loop-entry
invariant-loop-entry g l =
    let areas = g.O.Occupancy.areas in
    LeftSoFar l.column_flow l.field (areas l.initial.cells) l.entries (areas l.cells) l.cursor l.reached l.areas.items (drop l.entry-index l.entries)
