use Rattle.std.proofs.Common.{take, drop}
use Rattle.grid_placement.proofs.InRows.{RowsSoFar}
use Rattle.grid_placement.proofs.rows.place_rows.Given as goal

abbrev pub invariant-loop-entry : goal.invariant-loop-entry
invariant-loop-entry g l =
    let areas = g.O.Occupancy.areas in
    RowsSoFar l.dense (areas l.initial.cells) l.fn.entries (areas l.cells) (take l.entry-index l.entries) (drop l.entry-index l.entries) l.starts
