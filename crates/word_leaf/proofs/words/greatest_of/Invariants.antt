use Rattle.std.proofs.Common.{◌≡◌, ◌≤ℤ◌, pos, drop}
use Rattle.std.specs.Int.{int_max}
use Rattle.lunit.specs.Units.{top}
use Rattle.part_rules.specs.WordLines.{greatest}
use Rattle.word_leaf.proofs.words.greatest_of.Given as goal

abbrev pub invariant-loop-word : goal.invariant-loop-word
invariant-loop-word l = record {
  so_far : int_max l.greatest (greatest (drop l.word-index l.words)) ≡ greatest l.words;
  some : pos 0 ≤ℤ l.greatest;
  high : l.greatest ≤ℤ top;
}
