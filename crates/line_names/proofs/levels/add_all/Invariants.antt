use Rattle.std.proofs.Common.{ℕ, Bool, ◌||◌, List, take}
use Rattle.part_rules.specs.LineNames.{holds_name}
use Rattle.line_names.specs.Indexes.{IsPart}
use Rattle.line_names.specs.Levels.{joined_in}
use Rattle.line_names.proofs.levels.add_all.Given as goal

-- the lines of so many names are put
abbrev pub invariant-loop-name : goal.invariant-loop-name
invariant-loop-name l = (done : List ℕ → Bool) → IsPart l.fn.index.lines done (joined_in l.own l.above l.base.line l.tracks) →
    IsPart l.index.lines (λ other. done other || holds_name other (take l.name-index l.names)) (joined_in l.own l.above l.base.line l.tracks)
