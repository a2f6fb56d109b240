use Rattle.std.proofs.Common.{◌≡◌, ◌≤◌, ◌*◌, length, drop}
use Rattle.doc_writer.specs.Marks.{AreMarks}
use Rattle.doc_writer.proofs.area.marks_of.Given as goal

abbrev pub decreases-loop-index : goal.decreases-loop-index
decreases-loop-index l = l.index

-- the marks are those of the areas from the index on
abbrev pub invariant-loop-index : goal.invariant-loop-index
invariant-loop-index l = record {
  within : l.index ≤ length l.named;
  cells : length l.marks.items ≡ l.rows * l.columns;
  marks : AreMarks l.columns l.index (drop l.index l.named) l.marks.items;
}
