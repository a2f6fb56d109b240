use Rattle.hit_index.specs.Extents.{AreRuns}
use Rattle.hit_index.proofs.extents.all_extents.Given as goal

abbrev pub invariant-loop-numbers : goal.invariant-loop-numbers
invariant-loop-numbers l = AreRuns l.rects l.strips l.numbers-index l.extents
