use Rattle.std.proofs.Common.{◌∙◌, sym}
use Rattle.grid_placement.proofs.InRows.{near_all, row_step_is, row_ready_is}
use Rattle.grid_placement.proofs.rows.place_one.Goals as goal

pub row_area-area-requires-clause-near : goal.row_area-area-requires-clause-near
row_area-area-requires-clause-near g c = near_all _ c.requires.room c.requires.ready.near

pub returns-then-is_some-clause-step : goal.returns-then-is_some-clause-step
returns-then-is_some-clause-step g c = λ mine h.
    row_step_is c.args.dense (g.O.Occupancy.areas c.args.cells.now) mine (g.O.Occupancy.areas c.hold.new.cells) c.args.entry.now.wish c.args.entry.now.area c.row_area-area.result c.args.starts.now c.keep.new.self
    (sym c.is_some.ensures ∙ c.if-is_some.true) (c.row_area-area.ensures mine h) c.in_ok-hold.ensures (c.in_ok-keep.ensures.kept (g.O.Occupancy.areas c.args.cells.now) mine h)

pub returns-then-is_some-clause-ready : goal.returns-then-is_some-clause-ready
returns-then-is_some-clause-ready g c = λ mine h.
    row_ready_is c.args.dense (g.O.Occupancy.areas c.args.cells.now) mine (g.O.Occupancy.areas c.hold.new.cells) c.args.entry.now.wish c.row_area-area.result c.args.starts.now c.keep.new.self
    c.requires.ready c.requires.fit h (c.row_area-area.ensures mine h) c.in_ok-hold.ensures c.in_ok-keep.ensures.by
