use Rattle.std.proofs.Common.{true, ◌-ℤ◌}
use Rattle.std.specs.Prelude.{unsigned_abs}
use Rattle.cell_index.specs.Held.{held_in}
use Rattle.cell_index.specs.Passed.{last_line, moved, AreTaken}
use Rattle.cell_index.proofs.blocks.Blocks.next_row.Given as goal

abbrev pub invariant-search : goal.invariant-search
invariant-search l = AreTaken (held_in l.self) (moved true l.columns l.rows) l.start l.row

abbrev pub decreases-search : goal.decreases-search
decreases-search l = unsigned_abs (last_line -ℤ l.row)
