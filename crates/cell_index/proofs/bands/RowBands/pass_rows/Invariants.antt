use Rattle.std.proofs.Common.{◌≡◌}
use Rattle.cell_index.specs.Passed.{bands_passed}
use Rattle.cell_index.proofs.bands.RowBands.pass_rows.Given as goal

abbrev pub invariant-loop-next : goal.invariant-loop-next
invariant-loop-next l = bands_passed l.columns l.shut l.next-iterator l.row l.rows ≡ bands_passed l.columns l.initial.shut l.initial.next-iterator l.start l.rows
