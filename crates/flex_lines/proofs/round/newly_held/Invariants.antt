use Rattle.std.proofs.Common.{◌≡◌, ◌*◌, ◌+ℤ◌, ◌≤ℤ◌, pos, neg_ℤ, drop}
use Rattle.flex_lines.specs.Rounds.{newly_held}
use Rattle.flex_lines.proofs.round.newly_held.Given as goal

abbrev pub invariant-loop-place : goal.invariant-loop-place
invariant-loop-place l = record {
  so_far : l.held +ℤ newly_held l.sum (drop l.place l.flexible) (drop l.place l.sizes) ≡ newly_held l.sum l.flexible l.sizes;
  low : neg_ℤ (pos (2147483648 * l.place)) ≤ℤ l.held;
  high : l.held ≤ℤ pos (2147483648 * l.place);
}
