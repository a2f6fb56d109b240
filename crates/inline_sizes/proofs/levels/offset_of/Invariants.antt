use Rattle.std.proofs.Common.{◌≡◌, ◌*◌, ◌+ℤ◌, ◌≤ℤ◌, pos, neg_ℤ, drop}
use Rattle.tree_rules.specs.LentItems.{offset_of}
use Rattle.inline_sizes.proofs.levels.offset_of.Given as goal

abbrev pub invariant-loop-level : goal.invariant-loop-level
invariant-loop-level l = record {
  so_far : l.offset +ℤ offset_of (drop l.level-index l.levels) ≡ offset_of l.levels;
  low : neg_ℤ (pos (2147483648 * l.level-index)) ≤ℤ l.offset;
  high : l.offset ≤ℤ pos (2147483648 * l.level-index);
}
