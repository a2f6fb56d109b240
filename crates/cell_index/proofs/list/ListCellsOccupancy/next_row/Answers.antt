use Rattle.std.proofs.Common.{arith, sym, ◌∙◌}
use Rattle.std.proofs.lemmas.Int.{ints}
use Rattle.cell_index.proofs.Found.{empty_row, next_row_is}
use Rattle.cell_index.proofs.list.ListCellsOccupancy.next_row.Goals as goal

pub returns-then-not-has_cells : goal.returns-then-not-has_cells
returns-then-not-has_cells c = empty_row c.args.area c.args.self.now _ (omega (arith, ints)) (sym c.has_cells.ensures.value ∙ c.if-not-has_cells.true)

pub returns : goal.returns
returns c =
    next_row_is c.args.area c.tracks-rows.result c.deref.result.now c.args.self.now _ _ _ _ (c.deref.ensures.value ∙ c.self.view_is) (omega (arith, ints)) (omega (arith, ints)) c.tracks-rows.ensures c.next_listed.ensures
