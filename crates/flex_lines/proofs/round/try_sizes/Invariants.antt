use Rattle.std.proofs.Common.{◌≡◌, ◌+◌, ◌++◌, drop, map}
use Rattle.std.specs.List.{All}
use Rattle.part_rules.specs.FlexLines.{weight_of}
use Rattle.part_rules.specs.Lists.{total_of}
use Rattle.flex_lines.specs.Ranges.{IsPart, IsSize}
use Rattle.flex_lines.specs.Rounds.{pieces, reach, tries}
use Rattle.flex_lines.proofs.round.try_sizes.Given as goal

abbrev pub invariant-loop-one : goal.invariant-loop-one
invariant-loop-one l = record {
  sizes : l.sizes.items ++ tries l.grow l.space l.whole l.before (pieces (drop l.one-index l.flexible)) ≡ tries l.grow l.space l.whole 0 (pieces l.flexible);
  before : l.before + total_of (map (weight_of l.grow) (pieces (drop l.one-index l.flexible))) ≡ l.whole;
  lower : l.lower ≡ reach l.space l.whole l.before;
  part : IsPart l.lower;
  range : All IsSize l.sizes.items;
}
