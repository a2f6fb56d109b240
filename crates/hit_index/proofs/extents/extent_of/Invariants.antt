use Rattle.std.proofs.Common.{take}
use Rattle.hit_index.specs.Extents.{IsAround}
use Rattle.hit_index.proofs.extents.extent_of.Given as goal

abbrev pub invariant-loop-number : goal.invariant-loop-number
invariant-loop-number l = IsAround l.rects (take l.number-index l.numbers) l.extent
