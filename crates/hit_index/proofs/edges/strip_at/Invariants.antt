use Rattle.std.proofs.Common.{◌-◌, ◌<◌, ◌≤◌, ◌≤ℤ◌, ◌<ℤ◌, pos, get_or}
use Rattle.hit_index.proofs.edges.strip_at.Given as goal

abbrev pub invariant-loop-low : goal.invariant-loop-low
invariant-loop-low l = record {
  order : l.low < l.high;
  within : l.high ≤ 64;
  begins : 0 < l.low → get_or l.edges l.low (pos 0) ≤ℤ l.y;
  ends : l.high < 64 → l.y <ℤ get_or l.edges l.high (pos 0);
}

abbrev pub decreases-loop-low : goal.decreases-loop-low
decreases-loop-low l = l.high - l.low
