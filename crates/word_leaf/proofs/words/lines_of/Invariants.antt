use Rattle.std.proofs.Common.{◌≡◌, ◌≤◌, ◌+◌, ◌*◌, ◌≤ℤ◌, pos, neg_ℤ, drop, length}
use Rattle.lunit.specs.Units.{top}
use Rattle.part_rules.specs.WordLines.{word_lines}
use Rattle.word_leaf.proofs.Filling.{begun}
use Rattle.word_leaf.proofs.words.lines_of.Given as goal

abbrev pub invariant-loop-word : goal.invariant-loop-word
invariant-loop-word l = record {
  so_far : l.lines + begun l.space l.width l.line_width (drop l.word-index l.rest) ≡ length (word_lines l.space l.width l.words);
  few : l.lines ≤ l.word-index + 1;
  low : neg_ℤ (pos (2147483648 * (l.word-index + 1))) ≤ℤ l.line_width;
  high : l.line_width ≤ℤ top;
}
