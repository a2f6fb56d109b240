use Rattle.std.proofs.Common.{◌≡◌, ◌*◌, ◌≤◌, drop, length, []}
use Rattle.std.specs.Prelude.{filter}
use Rattle.hit_index.specs.Hits.{hits}
use Rattle.hit_index.proofs.extents.last_hit.Given as goal

abbrev pub invariant-loop-run : goal.invariant-loop-run
invariant-loop-run l = record {
  within : l.run ≤ length l.extents;
  none : filter (hits l.boxes l.x l.y) (drop (l.run * 64) l.numbers) ≡ [];
}

abbrev pub decreases-loop-run : goal.decreases-loop-run
decreases-loop-run l = l.run
