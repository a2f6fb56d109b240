use Rattle.std.proofs.Common.{◌≡◌, ◌++◌, ◌+ℤ◌, pos, drop}
use Rattle.placing.specs.Covered.{rules_by}
use Rattle.placing.proofs.rules.rules_of.Given as goal

abbrev pub invariant-loop-at : goal.invariant-loop-at
invariant-loop-at l = l.rules.items ++ rules_by l.base l.sizes l.autos (l.first +ℤ pos l.at) (drop l.at l.collapsed) ≡ rules_by l.base l.sizes l.autos l.first l.collapsed
