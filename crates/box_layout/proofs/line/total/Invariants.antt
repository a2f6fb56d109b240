use Rattle.std.proofs.Common.{◌≡◌, ◌*◌, ◌+ℤ◌, ◌≤ℤ◌, pos, neg_ℤ, drop}
use Rattle.part_rules.specs.Lists.{sum_of}
use Rattle.box_layout.proofs.line.total.Given as goal

abbrev pub invariant-loop-size : goal.invariant-loop-size
invariant-loop-size l = record {
  so_far : l.sum +ℤ sum_of (drop l.size-index l.sizes) ≡ sum_of l.sizes;
  low : neg_ℤ (pos (1073741824 * l.size-index)) ≤ℤ l.sum;
  high : l.sum ≤ℤ pos (1073741824 * l.size-index);
}
