use Rattle.std.proofs.Common.{◌≡◌, ℤ, ◌≤ℤ◌, ◌-ℤ◌, ◌||◌}
use Rattle.std.specs.Prelude.{IsSome, unsigned_abs}
use Rattle.std.specs.BTreeMap as tree
use Rattle.std.specs.Ordering.{int_cmp}
use Rattle.cell_index.specs.Taken.{held, holds}
use Rattle.cell_index.proofs.bands.RowBands.add_rows.Given as goal

abbrev pub invariant-loop-row : goal.invariant-loop-row
invariant-loop-row l = record {
  begins : IsSome (tree.get int_cmp l.self.bands l.row);
  ends : IsSome (tree.get int_cmp l.self.bands l.area.rows.end);
  low : l.area.rows.start ≤ℤ l.row;
  high : l.row ≤ℤ l.area.rows.end;
  added : (row column : ℤ) → held l.self row column ≡ (held l.fn.self row column || holds (record { columns = l.area.columns; rows = record { start = l.area.rows.start; end = l.row } }) row column);
}

abbrev pub decreases-loop-row : goal.decreases-loop-row
decreases-loop-row l = unsigned_abs (l.area.rows.end -ℤ l.row)
