use Rattle.std.proofs.Common.{◌≡◌, ◌++◌, drop}
use Rattle.flex_lines.specs.Crosses.{open_rows}
use Rattle.flex_lines.proofs.crosses.open_rows.Given as goal

abbrev pub invariant-loop-size : goal.invariant-loop-size
invariant-loop-size l = l.rows.items ++ open_rows (drop l._size-index l.sizes) ≡ open_rows l.sizes
