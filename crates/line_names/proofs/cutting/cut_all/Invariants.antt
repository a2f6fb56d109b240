use Rattle.std.proofs.Common.{◌≡◌, ◌++◌, take}
use Rattle.part_rules.specs.LineNames.{cut_areas}
use Rattle.line_names.proofs.cutting.cut_all.Given as goal

abbrev pub invariant-loop-area : goal.invariant-loop-area
invariant-loop-area l = l.out ≡ l.fn.out ++ cut_areas l.span (take l.area-index l.areas)
