use Rattle.std.proofs.Common.{take}
use Rattle.flex_lines.specs.Filling.{AreSized}
use Rattle.flex_lines.proofs.full.are_sized.Given as goal

abbrev pub invariant-loop-item : goal.invariant-loop-item
invariant-loop-item l = AreSized (take l.item-index l.items)
