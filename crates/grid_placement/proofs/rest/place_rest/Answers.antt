use Rattle.std.proofs.Common.{arith}
use Rattle.std.proofs.lemmas.Int.{ints}
use Rattle.grid_placement.proofs.Left.{left_begin}
use Rattle.grid_placement.proofs.rest.place_rest.Goals as goal

pub loop-entry-init : goal.loop-entry-init
loop-entry-init g c =
    left_begin c.args.column_flow c.args.field (g.O.Occupancy.areas c.args.cells.now) c.args.entries.now _ _ _ c.in_ok-areas.ensures.items c.new.ensures.empty c.new-2.ensures.items (omega (arith, ints)) (omega (arith, ints)) c.requires.set c.requires.fit c.requires.room
    c.requires.count
