use Rattle.std.proofs.Common.{◌≡◌, ◌≤◌, drop, length, min}
use Rattle.std.specs.Cmp.Lexicographic.{slice_cmp}
use Rattle.std.specs.Ordering.{nat_cmp}
use Rattle.lunit.proofs.name.order.Given as goal

abbrev pub invariant-loop-index : goal.invariant-loop-index
invariant-loop-index l = (l.shorter ≡ min (length l.a) (length l.b)) × ((l.both ≤ l.shorter) × ((l.index ≤ l.both) × (slice_cmp nat_cmp (drop l.index l.a) (drop l.index l.b) ≡ slice_cmp nat_cmp l.a l.b)))
