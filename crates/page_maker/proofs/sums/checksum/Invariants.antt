use Rattle.std.proofs.Common.{◌≡◌, ◌+ℤ◌, ◌<◌, ◌^◌, pos, drop}
use Rattle.page_maker.specs.Sums.{rest_of, sum_of, checksum}
use Rattle.page_maker.proofs.sums.checksum.Given as goal

abbrev pub invariant-loop-rect : goal.invariant-loop-rect
invariant-loop-rect l = (rest_of (pos l.total +ℤ sum_of (drop l.rect-index l.boxes)) ≡ checksum l.boxes) × (l.total < 2 ^ 64)
