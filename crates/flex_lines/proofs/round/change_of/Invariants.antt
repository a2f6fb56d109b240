use Rattle.std.proofs.Common.{◌≡◌, ◌*◌, ◌+ℤ◌, ◌≤ℤ◌, pos, neg_ℤ, drop}
use Rattle.flex_lines.specs.Rounds.{change_of}
use Rattle.flex_lines.proofs.round.change_of.Given as goal

abbrev pub invariant-loop-place : goal.invariant-loop-place
invariant-loop-place l = record {
  so_far : l.sum +ℤ change_of (drop l.place l.flexible) (drop l.place l.sizes) ≡ change_of l.flexible l.sizes;
  low : neg_ℤ (pos (8589934592 * l.place)) ≤ℤ l.sum;
  high : l.sum ≤ℤ pos (8589934592 * l.place);
}
