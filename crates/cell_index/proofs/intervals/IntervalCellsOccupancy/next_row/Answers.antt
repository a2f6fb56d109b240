use Rattle.std.proofs.Common.{arith, sym, ◌∙◌, true}
use Rattle.std.proofs.lemmas.Int.{ints}
use Rattle.cell_index.proofs.Found.{empty_row, next_row_is, reached_is_next}
use Rattle.cell_index.proofs.intervals.IntervalCellsOccupancy.next_row.Goals as goal

pub returns-then-not-has_cells : goal.returns-then-not-has_cells
returns-then-not-has_cells c = empty_row c.args.area c.args.self.now _ (omega (arith, ints)) (sym c.has_cells.ensures.value ∙ c.if-not-has_cells.true)

pub returns-then-self : goal.returns-then-self
returns-then-self c =
    next_row_is c.args.area c.tracks-rows.result c.self.inside.areas.items c.args.self.now _ _ _ _ c.self.view_is (omega (arith, ints)) (omega (arith, ints)) c.tracks-rows.ensures
    (reached_is_next true c.args.area.columns c.tracks-rows.result c.self.inside.areas.items c.self.inside.blocks _ _ (c.self.invariant.told c.if-self.true) c.self.invariant.right c.self.invariant.below c.next_row.ensures)

pub returns : goal.returns
returns c =
    next_row_is c.args.area c.tracks-rows.result c.deref.result.now c.args.self.now _ _ _ _ (c.deref.ensures.value ∙ c.self.view_is) (omega (arith, ints)) (omega (arith, ints)) c.tracks-rows.ensures c.next_listed.ensures
