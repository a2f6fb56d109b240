use Rattle.std.proofs.Common.{arith, to_z, of_z, w32}
use Rattle.std.proofs.lemmas.Int.{ints}
use Rattle.grid_placement.proofs.Ends.{row_area_is}
use Rattle.grid_placement.proofs.rows.row_area.Goals as goal

pub returns-in-Free-At : goal.returns-in-Free-At
returns-in-Free-At g c =
    λ mine h. row_area_is c.args.dense c.args.starts.now (g.O.Occupancy.areas c.args.cells.now) mine c.args.wish.column c.args.wish.row _ _ _ (to_z w32 (of_z w32 c.start-start.result)) c.start-start.result c.in-Free-At.is-0 c.in-Free-At.is-1 c.start-start.ensures
    c.columns_from-columns.ensures (omega (arith, ints)) h
