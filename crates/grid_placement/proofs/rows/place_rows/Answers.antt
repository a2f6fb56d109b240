use Rattle.std.proofs.Common.{arith, ◌<◌, length}
use Rattle.grid_placement.proofs.InRows.{rows_begin, rows_more}
use Rattle.grid_placement.proofs.rows.place_rows.Goals as goal

pub loop-entry-init : goal.loop-entry-init
loop-entry-init g c = rows_begin _ (g.O.Occupancy.areas c.args.cells.now) c.args.entries.now _ c.requires.near c.new.ensures.empty c.new-2.ensures.empty c.requires.fit c.requires.room

pub loop-entry-preserved : goal.loop-entry-preserved
loop-entry-preserved g c =
    let less : c.loop-entry.entry-index < length c.loop-entry.entries = omega arith in
    rows_more c.args.dense (g.O.Occupancy.areas c.args.cells.now) c.args.entries.now (g.O.Occupancy.areas c.loop-entry.cells) (g.O.Occupancy.areas c.place_one.new.cells) c.loop-entry.entries c.loop-entry.entry-index _ c.place_one.new.entry c.loop-entry.starts c.place_one.new.starts
    less c.loop-entry.invariant c.in_ok-place_one.ensures.step c.in_ok-place_one.ensures.ready
