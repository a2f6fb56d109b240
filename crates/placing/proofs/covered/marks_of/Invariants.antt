use Rattle.std.proofs.Common.{take}
use Rattle.placing.specs.Covered.{AreMarked}
use Rattle.placing.proofs.covered.marks_of.Given as goal

abbrev pub invariant-loop-area : goal.invariant-loop-area
invariant-loop-area l = AreMarked l.first (take l.area-index l.areas) l.count l.marks
