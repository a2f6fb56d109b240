use Rattle.std.proofs.Common.{◌≡◌, ◌+◌, ◌*◌, ◌++◌, ◌≤ℤ◌, pos, neg_ℤ, drop}
use Rattle.flex_lines.specs.Lines.{begun}
use Rattle.flex_lines.proofs.lines.wrapped.Given as goal

abbrev pub invariant-loop-place : goal.invariant-loop-place
invariant-loop-place l = record {
  so_far : l.lines.items ++ begun l.main l.gap l.start (l.place + 1) l.length (drop l.place l.rest) ≡ begun l.main l.gap 0 1 l.fn.first l.rest;
  low : neg_ℤ (pos (4294967296 * (l.place + 1))) ≤ℤ l.length;
  high : l.length ≤ℤ pos (4294967296 * (l.place + 1));
}
