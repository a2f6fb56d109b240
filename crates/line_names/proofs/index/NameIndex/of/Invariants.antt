use Rattle.std.proofs.Common.{take}
use Rattle.line_names.specs.Indexes.{IsPart}
use Rattle.line_names.specs.SetLists.{has_name, named_in}
use Rattle.line_names.proofs.index.NameIndex.of.Given as goal

-- the lines of the names of so many sets are put
abbrev pub invariant-loop-names : goal.invariant-loop-names
invariant-loop-names l = IsPart l.index.lines (has_name (take l.names-index l.lines.sets)) (named_in l.lines)
