use Rattle.std.proofs.Common.{◌≡◌, ◌++◌, drop, map}
use Rattle.part_rules.specs.FlexLines.{own_cross}
use Rattle.flex_lines.proofs.crosses.own_crosses.Given as goal

abbrev pub invariant-loop-line : goal.invariant-loop-line
invariant-loop-line l = l.sizes.items ++ map (own_cross l.outer l.cross l.wrap) (drop l.line-index l.lines) ≡ map (own_cross l.outer l.cross l.wrap) l.lines
