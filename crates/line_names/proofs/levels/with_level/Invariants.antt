use Rattle.std.proofs.Common.{◌≡◌, ◌∷◌, take}
use Rattle.line_names.proofs.levels.with_level.Given as goal

abbrev pub invariant-loop-other : goal.invariant-loop-other
invariant-loop-other l = l.all ≡ l.level ∷ take l.other-index l.levels
