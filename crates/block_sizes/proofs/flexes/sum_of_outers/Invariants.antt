use Rattle.std.proofs.Common.{◌≡◌, ◌*◌, ◌+ℤ◌, ◌≤ℤ◌, pos, neg_ℤ, drop, map}
use Rattle.part_rules.specs.FlexLines.{outer_hypothetical}
use Rattle.part_rules.specs.Lists.{sum_of}
use Rattle.block_sizes.proofs.flexes.sum_of_outers.Given as goal

abbrev pub invariant-loop-item : goal.invariant-loop-item
invariant-loop-item l = record {
  so_far : l.sum +ℤ sum_of (map outer_hypothetical (drop l.item-index l.items)) ≡ sum_of (map outer_hypothetical l.items);
  low : neg_ℤ (pos (2199023255552 * l.item-index)) ≤ℤ l.sum;
  high : l.sum ≤ℤ pos (2199023255552 * l.item-index);
}
