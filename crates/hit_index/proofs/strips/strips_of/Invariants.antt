use Rattle.std.proofs.Common.{take}
use Rattle.hit_index.specs.Strips.{AreStrips}
use Rattle.hit_index.proofs.strips.strips_of.Given as goal

abbrev pub invariant-loop-number : goal.invariant-loop-number
invariant-loop-number l = AreStrips l.edges (take l.number l.rects) l.strips
