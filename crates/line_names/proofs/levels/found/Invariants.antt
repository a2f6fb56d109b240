use Rattle.std.proofs.Common.{◌≡◌, drop}
use Rattle.line_names.specs.Levels.{found}
use Rattle.line_names.proofs.levels.found.Given as goal

abbrev pub invariant-loop-level : goal.invariant-loop-level
invariant-loop-level l = found (drop l.level-index l.levels) l.name ≡ found l.levels l.name
