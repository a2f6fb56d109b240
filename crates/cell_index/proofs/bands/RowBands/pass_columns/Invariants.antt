use Rattle.cell_index.proofs.BandsPassed.{IsOver}
use Rattle.cell_index.proofs.bands.RowBands.pass_columns.Given as goal

abbrev pub invariant-loop-taken : goal.invariant-loop-taken
invariant-loop-taken l = IsOver l.initial.taken-iterator l.columns l.initial.line l.line l.taken-iterator
