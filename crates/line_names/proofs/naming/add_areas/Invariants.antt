use Rattle.std.proofs.Common.{◌++◌, get_or, take, length, pos, []}
use Rattle.part_rules.specs.LineNames.{names_by_areas}
use Rattle.line_names.specs.Tables.{AreLines}
use Rattle.line_names.proofs.naming.add_areas.Given as goal

abbrev pub invariant-loop-area : goal.invariant-loop-area
invariant-loop-area l = AreLines (λ line. get_or l.fn.lines line [] ++ names_by_areas (pos line) (take l.area-index l.areas)) (length l.fn.lines) l.lines
