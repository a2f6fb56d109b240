use Rattle.hit_index.specs.Columns.{AreRanges}
use Rattle.hit_index.proofs.columns.Grid.ranges.Given as goal

abbrev pub invariant-loop-rect : goal.invariant-loop-rect
invariant-loop-rect l = AreRanges l.self l.rects l.rect-index l.ranges.items
