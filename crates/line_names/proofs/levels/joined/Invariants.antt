use Rattle.std.proofs.Common.{◌≡◌}
use Rattle.line_names.specs.Levels.{either}
use Rattle.line_names.specs.LineLists.{listed}
use Rattle.line_names.specs.Passing.{passing}
use Rattle.line_names.proofs.levels.joined.Given as goal

-- the lines before this one
abbrev pub invariant-loop-at : goal.invariant-loop-at
invariant-loop-at l = l.lines ≡ passing (either (listed l.own) (listed l.above) l.base.line) l.base.line l.at
