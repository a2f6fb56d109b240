use Rattle.std.proofs.Common.{ap, ◌∙◌, false, to_z, of_z, w32}
use Rattle.cell_index.specs.declared.columns.TakenColumns.{TakenColumns}
use Rattle.cell_index.specs.Taken.{reads, taken}
use Rattle.cell_index.proofs.Changes.{reads_joined}
use Rattle.cell_index.proofs.bands.RowBands.join.Goals as goal

pub returns-then-goes_on-clause-same : goal.returns-then-goes_on-clause-same
returns-then-goes_on-clause-same c = λ other column.
    ap (λ es. reads (λ (columns : TakenColumns). taken columns column) false es other) c.remove.ensures.entries
    ∙ reads_joined (λ (columns : TakenColumns). taken columns column) false (to_z w32 (of_z w32 c.args.row)) c.args.self.now.bands.entries other (c.goes_on.ensures.ordered c.if-goes_on.true) (c.goes_on.ensures.same c.if-goes_on.true column)
