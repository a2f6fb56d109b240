use Rattle.std.proofs.Common.{◌≡◌, ◌*◌, ◌+ℤ◌, ◌≤ℤ◌, pos, neg_ℤ, drop}
use Rattle.part_rules.specs.Lists.{sum_of}
use Rattle.word_leaf.proofs.words.width_of.Given as goal

abbrev pub invariant-loop-word : goal.invariant-loop-word
invariant-loop-word l = record {
  so_far : l.sum +ℤ sum_of (drop l.word-index l.words) ≡ sum_of l.words;
  low : neg_ℤ (pos (1073741824 * l.word-index)) ≤ℤ l.sum;
  high : l.sum ≤ℤ pos (1073741824 * l.word-index);
}
