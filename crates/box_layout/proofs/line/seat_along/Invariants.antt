use Rattle.std.proofs.Common.{◌≡◌, ◌++◌, ◌*◌, ◌≤ℤ◌, pos, neg_ℤ, drop, length}
use Rattle.box_layout.specs.Seats.{moved_by_rest, seats_along}
use Rattle.box_layout.proofs.line.seat_along.Given as goal

abbrev pub invariant-loop-k : goal.invariant-loop-k
invariant-loop-k l = record {
  so_far : l.seats ++ seats_along l.flex (record { at = l.at; size = l.size }) (moved_by_rest l.flex.along l.free (length l.line)) l.k l.place (drop (2 * l.k) l.taken) (drop l.k l.line) ≡
      l.fn.seats ++ seats_along l.flex (record { at = l.at; size = l.size }) (moved_by_rest l.flex.along l.free (length l.line)) 0 (pos 0) l.taken l.line;
  low : neg_ℤ (pos (6442450944 * l.k)) ≤ℤ l.place;
  high : l.place ≤ℤ pos (6442450944 * l.k);
}
