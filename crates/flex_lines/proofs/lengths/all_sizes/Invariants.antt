use Rattle.std.proofs.Common.{◌≡◌, ◌++◌, drop}
use Rattle.part_rules.specs.FlexLines.{main_sizes}
use Rattle.flex_lines.proofs.lengths.all_sizes.Given as goal

abbrev pub invariant-loop-line : goal.invariant-loop-line
invariant-loop-line l = l.all.items ++ main_sizes l.main l.gap l.items (drop l.line-index l.lines) ≡ main_sizes l.main l.gap l.items l.lines
