use Rattle.std.proofs.Common.{take}
use Rattle.line_names.specs.Indexes.{IsPart}
use Rattle.line_names.specs.Levels.{joined_in}
use Rattle.line_names.specs.SetLists.{has_name}
use Rattle.line_names.proofs.levels.index_below.Given as goal

-- the lines of the names of so many sets are put
abbrev pub invariant-loop-names : goal.invariant-loop-names
invariant-loop-names l = IsPart l.index.lines (has_name (take l.names-index l.lines.sets)) (joined_in l.own l.above l.base.line l.tracks)
