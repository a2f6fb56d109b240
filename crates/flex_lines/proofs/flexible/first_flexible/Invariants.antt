use Rattle.std.proofs.Common.{◌≡◌, ◌++◌, drop, map}
use Rattle.part_rules.specs.FlexLines.{begin}
use Rattle.flex_lines.specs.Rounds.{flexible_from}
use Rattle.flex_lines.proofs.flexible.first_flexible.Given as goal

abbrev pub invariant-loop-place : goal.invariant-loop-place
invariant-loop-place l = l.all.items ++ flexible_from l.place (map (begin l.grow) (drop l.place l.items)) ≡ flexible_from 0 (map (begin l.grow) l.items)
