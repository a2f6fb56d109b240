use Rattle.std.proofs.Common.{◌≡◌, ◌*◌, ◌+ℤ◌, ◌≤ℤ◌, pos, neg_ℤ, drop, map}
use Rattle.part_rules.specs.Lists.{sum_of}
use Rattle.box_layout.specs.Seats.{outer_main}
use Rattle.box_layout.proofs.line.outer_sum.Given as goal

abbrev pub invariant-loop-child : goal.invariant-loop-child
invariant-loop-child l = record {
  so_far : l.sum +ℤ sum_of (map outer_main (drop l.child-index l.line)) ≡ sum_of (map outer_main l.line);
  low : neg_ℤ (pos (3221225472 * l.child-index)) ≤ℤ l.sum;
  high : l.sum ≤ℤ pos (3221225472 * l.child-index);
}
