use Rattle.std.proofs.Common.{ℕ, ◌-◌, ◌≤◌, ◌<◌, length, get_or, pos, ◌≤ℤ◌, ◌<ℤ◌}
use Rattle.cell_index.proofs.columns.count_up_to.Given as goal

abbrev pub invariant-loop-low : goal.invariant-loop-low
invariant-loop-low l = record {
  order : l.low ≤ l.high;
  within : l.high ≤ length l.edges;
  before : (i : ℕ) → i < l.low → get_or l.edges i (pos 0) ≤ℤ l.limit;
  after : (i : ℕ) → l.high ≤ i → i < length l.edges → l.limit <ℤ get_or l.edges i (pos 0);
}

abbrev pub decreases-loop-low : goal.decreases-loop-low
decreases-loop-low l = l.high - l.low
