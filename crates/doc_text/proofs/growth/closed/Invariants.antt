use Rattle.std.proofs.Common.{◌≡◌, ◌≤◌, length, min}
use Rattle.doc_text.specs.Open.{assembled}
use Rattle.doc_text.proofs.growth.closed.Given as goal

-- what is left is the same tree, and not fewer than wanted
abbrev pub invariant-loop-left : goal.invariant-loop-left
invariant-loop-left l = record {
  same : assembled l.left ≡ assembled l.fn.path;
  long : min l.level (length l.fn.path) ≤ length l.left;
  short : length l.left ≤ length l.fn.path;
}

abbrev pub decreases-loop-left : goal.decreases-loop-left
decreases-loop-left l = length l.left
