use Rattle.std.proofs.Common.{◌≡◌, ◌++◌, drop}
use Rattle.flex_lines.specs.Crosses.{added}
use Rattle.flex_lines.proofs.crosses.added.Given as goal

abbrev pub invariant-loop-place : goal.invariant-loop-place
invariant-loop-place l = l.all.items ++ added (drop l.place l.sizes) (drop l.place l.rows) ≡ added l.sizes l.rows
