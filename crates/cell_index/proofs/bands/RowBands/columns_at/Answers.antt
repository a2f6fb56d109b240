use Rattle.std.proofs.Common.{sym, ap, ◌∙◌, false, to_z, of_z, w32}
use Rattle.std.proofs.lemmas.Int.{to_z-of_z}
use Rattle.cell_index.specs.declared.columns.TakenColumns.{TakenColumns}
use Rattle.cell_index.specs.Taken.{held, reads, taken}
use Rattle.cell_index.proofs.Changes.{reads_last, reads_none}
use Rattle.cell_index.proofs.bands.RowBands.columns_at.Goals as goal

pub returns-in-Some-clause-value : goal.returns-in-Some-clause-value
returns-in-Some-clause-value c = λ column.
    ap (λ z. held c.args.self.now z column) (sym (to_z-of_z w32 c.args.row c.ranges.row))
    ∙ reads_last (λ (columns : TakenColumns). taken columns column) false c.args.self.now.bands.entries (to_z w32 (of_z w32 c.args.row)) c.next_back.new.self (c.in-Some.field-0-0.now, c.in-Some.columns.now) (sym (c.range.ensures.between tt) ∙ c.in-Some.ensures.steps)

pub returns-in-None-clause-value : goal.returns-in-None-clause-value
returns-in-None-clause-value c = λ column.
    ap (λ z. held c.args.self.now z column) (sym (to_z-of_z w32 c.args.row c.ranges.row))
    ∙ reads_none (λ (columns : TakenColumns). taken columns column) false c.args.self.now.bands.entries (to_z w32 (of_z w32 c.args.row)) (sym (c.range.ensures.between tt) ∙ c.in-None.ensures.steps.0)

pub returns-in-Some-clause-says : goal.returns-in-Some-clause-says
returns-in-Some-clause-says c = λ says.
    ap (λ z. reads says false c.args.self.now.bands.entries z) (sym (to_z-of_z w32 c.args.row c.ranges.row))
    ∙ reads_last says false c.args.self.now.bands.entries (to_z w32 (of_z w32 c.args.row)) c.next_back.new.self (c.in-Some.field-0-0.now, c.in-Some.columns.now) (sym (c.range.ensures.between tt) ∙ c.in-Some.ensures.steps)

pub returns-in-None-clause-says : goal.returns-in-None-clause-says
returns-in-None-clause-says c = λ says.
    ap (λ z. reads says false c.args.self.now.bands.entries z) (sym (to_z-of_z w32 c.args.row c.ranges.row))
    ∙ reads_none says false c.args.self.now.bands.entries (to_z w32 (of_z w32 c.args.row)) (sym (c.range.ensures.between tt) ∙ c.in-None.ensures.steps.0)
