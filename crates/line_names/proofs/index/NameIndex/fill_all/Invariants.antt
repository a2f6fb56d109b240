use Rattle.std.proofs.Common.{ℕ, Bool, ◌||◌, List, take}
use Rattle.part_rules.specs.LineNames.{holds_name}
use Rattle.line_names.specs.Indexes.{IsPart}
use Rattle.line_names.specs.SetLists.{named_in}
use Rattle.line_names.proofs.index.NameIndex.fill_all.Given as goal

-- the lines of so many names are put
abbrev pub invariant-loop-name : goal.invariant-loop-name
invariant-loop-name l = (done : List ℕ → Bool) → IsPart l.fn.self.lines done (named_in l.lines) → IsPart l.self.lines (λ other. done other || holds_name other (take l.name-index l.names)) (named_in l.lines)
