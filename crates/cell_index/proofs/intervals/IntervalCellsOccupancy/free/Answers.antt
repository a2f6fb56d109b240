use Rattle.std.proofs.Common.{ap, ◌∙◌}
use Rattle.lunit.specs.Areas.{is_free}
use Rattle.cell_index.proofs.Told.{free_is_told}
use Rattle.cell_index.proofs.intervals.IntervalCellsOccupancy.free.Goals as goal

pub returns-then-has_cells : goal.returns-then-has_cells
returns-then-has_cells c =
    free_is_told c.is_free.result c.args.area c.self.inside.areas.items c.self.inside.blocks (c.self.invariant.told c.if-self.true) c.is_free.ensures.free c.is_free.ensures.shut
    ∙ ap (λ xs. is_free c.args.area xs) c.self.view_is
