use Rattle.std.proofs.Common.{◌≡◌, ℕ, List, pos, take}
use Rattle.part_rules.specs.LineNames.{holds_name}
use Rattle.line_names.specs.Indexes.{lines_in, marked}
use Rattle.line_names.proofs.index.NameIndex.add_all.Given as goal

abbrev pub invariant-loop-name : goal.invariant-loop-name
invariant-loop-name l = (other : List ℕ) → lines_in l.self.lines other ≡ marked (holds_name other (take l.name-index l.names)) (lines_in l.fn.self.lines other) (pos l.line)
