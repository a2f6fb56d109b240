use Rattle.std.proofs.Common.{pos, ◌-ℤ◌}
use Rattle.part_rules.specs.Lists.{above_zero}
use Rattle.grid_placement.proofs.Positions.{IsSearch}
use Rattle.grid_placement.proofs.search.area_from.Given as goal

abbrev pub invariant-search : goal.invariant-search
invariant-search g l =
    let areas = g.O.Occupancy.areas in
    IsSearch (areas l.cells) (record { start = l.sought.first; end = l.sought.last }) l.sought.columns l.sought.rows (record { column = l.fn.from.column; row = l.fn.from.row }) l.area

abbrev pub decreases-search : goal.decreases-search
decreases-search g l = above_zero (pos 1310805536 -ℤ l.area.rows.start)
