use Rattle.std.proofs.Common.{◌≡◌, replicate, []}
use Rattle.hit_index.proofs.strips.empty_strips.Given as goal

abbrev pub invariant-loop-count : goal.invariant-loop-count
invariant-loop-count l = l.strips ≡ replicate l.count-index []
