use Rattle.std.proofs.Common.{◌≡◌, ℕ, List, take, pos}
use Rattle.part_rules.specs.LineNames.{named_from}
use Rattle.line_names.specs.Indexes.{lines_in}
use Rattle.line_names.proofs.index.NameIndex.of_sets.Given as goal

-- the index of the sets so far
abbrev pub invariant-loop-at : goal.invariant-loop-at
invariant-loop-at l = (other : List ℕ) → lines_in l.index.lines other ≡ named_from other (pos 0) (take l.at l.sets)
