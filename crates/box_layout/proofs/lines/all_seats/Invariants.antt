use Rattle.std.proofs.Common.{◌≡◌, ◌++◌, ◌*◌, ◌≤ℤ◌, pos, neg_ℤ, drop, length}
use Rattle.box_layout.specs.Seats.{all_seats, moved_by_rest, seats_from}
use Rattle.box_layout.proofs.lines.all_seats.Given as goal

abbrev pub invariant-loop-k : goal.invariant-loop-k
invariant-loop-k l = record {
  so_far : l.seats ++ seats_from l.flex (moved_by_rest l.flex.across l.free (length l.sizes)) l.k l.at (drop l.k l.sizes) (drop l.k l.ranges) l.children ≡ all_seats l.flex l.sizes l.ranges l.children;
  low : neg_ℤ (pos (2147483648 * l.k)) ≤ℤ l.at;
  high : l.at ≤ℤ pos (2147483648 * l.k);
}
