use Rattle.std.proofs.Common.{◌≡◌, ◌≤◌, ◌*◌, max, length}
use Rattle.doc_writer.proofs.Marks.{SetsRows}
use Rattle.doc_writer.proofs.area.mark_area.Given as goal

-- the rows so far have the mark
abbrev pub invariant-loop-row : goal.invariant-loop-row
invariant-loop-row l = record {
  low : l.top ≤ l.row;
  reach : l.row ≤ max l.top l.bottom;
  cells : length l.marks ≡ l.rows * l.columns;
  sets : SetsRows l.columns l.left l.right l.top l.row l.mark l.fn.marks l.marks;
}
