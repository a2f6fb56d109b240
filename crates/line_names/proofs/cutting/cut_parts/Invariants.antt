use Rattle.std.proofs.Common.{◌≡◌, ◌++◌, take}
use Rattle.line_names.specs.Parts.{cut_parts}
use Rattle.line_names.proofs.cutting.cut_parts.Given as goal

abbrev pub invariant-loop-area : goal.invariant-loop-area
invariant-loop-area l = l.out ≡ l.fn.out ++ cut_parts l.span (take l.area-index l.areas)
