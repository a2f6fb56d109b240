use Rattle.std.proofs.Common.{arith}
use Rattle.std.proofs.lemmas.Int.{ints}
use Rattle.grid_placement.proofs.Left.{next_step_is}
use Rattle.grid_placement.proofs.rest.place_next.Goals as goal

pub returns-in_ok-keep : goal.returns-in_ok-keep
returns-in_ok-keep g c = next_step_is c.args.field (g.O.Occupancy.areas c.args.cells.now) (g.O.Occupancy.areas c.hold.new.cells) c.args.cursor.now _ c.args.wish.column c.args.wish.row c.next_area-area.result c.in-Some.area c.keep.new.reached
    c.requires.set c.requires.fit c.requires.room c.next_area-area.ensures c.in-Some.is c.in_ok-hold.ensures (omega (arith, ints)) (omega (arith, ints))
    (c.in_ok-keep.ensures (g.O.Occupancy.areas c.args.cells.now) c.args.cursor.now c.requires.knows c.requires.set c.requires.room)
