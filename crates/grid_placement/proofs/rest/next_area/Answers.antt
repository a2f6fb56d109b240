use Rattle.std.proofs.Common.{arith, ◌≤ℤ◌, pos, to_z, of_z, w32, w64}
use Rattle.std.proofs.lemmas.Int.{ints}
use Rattle.grid_placement.proofs.InRows.{near_all}
use Rattle.grid_placement.proofs.Left.{area_is_next, begin_near, rows_are_next, start_near}
use Rattle.grid_placement.proofs.rest.next_area.Goals as goal

pub rows_from-requires-clause-ends : goal.rows_from-requires-clause-ends
rows_from-requires-clause-ends g c = near_all (g.O.Occupancy.areas c.args.cells.now) (omega arith) c.requires.set.near

pub rows_from-requires-clause-near : goal.rows_from-requires-clause-near
rows_from-requires-clause-near g c =
    let near : c.row_from-from.result ≤ℤ pos 1310805536 = start_near c.args.field c.args.reached.now (g.O.Occupancy.areas c.args.cells.now) c.args.cursor c.in-At-Free.columns c.args.wish.row c.in-At-Free.tracks c.row_from-from.result c.requires.set c.requires.knows c.in-At-Free.is-1
    c.requires.count c.row_from-from.ensures in
    omega (arith, ints)

pub returns-in-At-Free : goal.returns-in-At-Free
returns-in-At-Free g c = rows_are_next c.args.field c.args.reached.now (g.O.Occupancy.areas c.args.cells.now) c.args.cursor c.args.wish.column c.args.wish.row c.in-At-Free.columns c.rows_from.result c.in-At-Free.tracks (to_z w32 (of_z w32 c.row_from-from.result)) c.row_from-from.result
    c.in-At-Free.is-0 c.in-At-Free.is-1 c.row_from-from.ensures c.rows_from.ensures (omega (arith, ints)) c.requires.knows

pub area_from-requires-clause-ends : goal.area_from-requires-clause-ends
area_from-requires-clause-ends g c = near_all (g.O.Occupancy.areas c.args.cells.now) (omega arith) c.requires.set.near

pub area_from-requires-clause-near_column : goal.area_from-requires-clause-near_column
area_from-requires-clause-near_column g c =
    (begin_near c.args.field c.args.reached.now (g.O.Occupancy.areas c.args.cells.now) c.args.cursor c.args.wish.column c.args.wish.row c.in-Free-Free.columns c.in-Free-Free.rows c.position_from-from.result c.requires.set c.requires.knows c.requires.room
    c.in-Free-Free.is-0 c.in-Free-Free.is-1 c.requires.count c.position_from-from.ensures).0.1

pub area_from-requires-clause-near_row : goal.area_from-requires-clause-near_row
area_from-requires-clause-near_row g c =
    (begin_near c.args.field c.args.reached.now (g.O.Occupancy.areas c.args.cells.now) c.args.cursor c.args.wish.column c.args.wish.row c.in-Free-Free.columns c.in-Free-Free.rows c.position_from-from.result c.requires.set c.requires.knows c.requires.room
    c.in-Free-Free.is-0 c.in-Free-Free.is-1 c.requires.count c.position_from-from.ensures).0.2

pub area_from-requires-clause-first : goal.area_from-requires-clause-first
area_from-requires-clause-first g c =
    let a =
    (begin_near c.args.field c.args.reached.now (g.O.Occupancy.areas c.args.cells.now) c.args.cursor c.args.wish.column c.args.wish.row c.in-Free-Free.columns c.in-Free-Free.rows c.position_from-from.result c.requires.set c.requires.knows c.requires.room
    c.in-Free-Free.is-0 c.in-Free-Free.is-1 c.requires.count c.position_from-from.ensures).0.0
    in
    omega (arith, ints)

pub returns-in-Free-Free : goal.returns-in-Free-Free
returns-in-Free-Free g c = area_is_next c.args.field c.args.reached.now (g.O.Occupancy.areas c.args.cells.now) c.args.cursor c.args.wish.column c.args.wish.row c.in-Free-Free.columns c.in-Free-Free.rows c.position_from-from.result c.area_from.result
    (to_z w32 (of_z w32 c.args.field.first)) (to_z w64 (of_z w64 c.args.field.last)) (omega (arith, ints)) (omega (arith, ints)) c.in-Free-Free.is-0 c.in-Free-Free.is-1 c.requires.room c.position_from-from.ensures c.area_from.ensures c.requires.knows
