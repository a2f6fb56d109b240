use Rattle.std.proofs.Common.{◌≡◌, ◌≤◌, drop, length, []}
use Rattle.std.specs.Prelude.{filter}
use Rattle.hit_index.specs.Hits.{hits}
use Rattle.hit_index.proofs.boxes.last_hit_of.Given as goal

abbrev pub invariant-loop-end : goal.invariant-loop-end
invariant-loop-end l = record {
  within : l.end ≤ length l.numbers;
  none : filter (hits l.rects l.x l.y) (drop l.end l.numbers) ≡ [];
}

abbrev pub decreases-loop-end : goal.decreases-loop-end
decreases-loop-end l = l.end
