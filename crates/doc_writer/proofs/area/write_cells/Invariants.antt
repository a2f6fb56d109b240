use Rattle.std.proofs.Common.{◌≡◌, true, length}
use Rattle.doc_writer.specs.Marks.{marks_words}
use Rattle.doc_writer.specs.Spaces.{put}
use Rattle.doc_writer.proofs.area.write_cells.Given as goal

abbrev pub decreases-loop-mark : goal.decreases-loop-mark
decreases-loop-mark l = length l.left

-- the cells that are left, after those so far, are all
abbrev pub invariant-loop-mark : goal.invariant-loop-mark
invariant-loop-mark l = put l.line (marks_words l.opens l.named l.left) ≡ put l.fn.line (marks_words true l.named l.marks)
