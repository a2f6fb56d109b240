use Rattle.std.proofs.Common.{◌≡◌, ◌≤ℤ◌, pos, drop}
use Rattle.std.specs.Int.{int_max}
use Rattle.lunit.specs.Units.{IsUnits}
use Rattle.part_rules.specs.Lists.{greatest_with}
use Rattle.inline_sizes.proofs.distribution.greatest_of.Given as goal

abbrev pub invariant-loop-size : goal.invariant-loop-size
invariant-loop-size l = record {
  so_far : int_max l.greatest (greatest_with (pos 0) (drop l.size-index l.sizes)) ≡ greatest_with (pos 0) l.sizes;
  some : pos 0 ≤ℤ l.greatest;
  length : IsUnits l.greatest;
}
