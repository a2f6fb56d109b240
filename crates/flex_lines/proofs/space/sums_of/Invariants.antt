use Rattle.std.proofs.Common.{◌≡◌, ◌+◌, ◌*◌, ◌≤◌, ◌+ℤ◌, ◌≤ℤ◌, pos, neg_ℤ, drop, map}
use Rattle.part_rules.specs.FlexLines.{free_factor, outer_now, weight_of}
use Rattle.part_rules.specs.Lists.{sum_of, total_of}
use Rattle.flex_lines.specs.Rounds.{pieces}
use Rattle.flex_lines.proofs.space.sums_of.Given as goal

abbrev pub invariant-loop-one : goal.invariant-loop-one
invariant-loop-one l = record {
  factors : l.factors + total_of (map (free_factor l.grow) (pieces (drop l.one-index l.flexible))) ≡ total_of (map (free_factor l.grow) (pieces l.flexible));
  weights : l.weights + total_of (map (weight_of l.grow) (pieces (drop l.one-index l.flexible))) ≡ total_of (map (weight_of l.grow) (pieces l.flexible));
  outer : l.outer +ℤ sum_of (map outer_now (pieces (drop l.one-index l.flexible))) ≡ sum_of (map outer_now (pieces l.flexible));
  few_factors : l.factors ≤ 4294967295 * l.one-index;
  few_weights : l.weights ≤ 9223372036854775808 * l.one-index;
  low : neg_ℤ (pos (2147483648 * l.one-index)) ≤ℤ l.outer;
  high : l.outer ≤ℤ pos (2147483648 * l.one-index);
}
