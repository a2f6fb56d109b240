use Rattle.std.proofs.Common.{◌≡◌, ◌++◌, drop}
use Rattle.flex_lines.specs.Rounds.{left}
use Rattle.flex_lines.proofs.round.left.Given as goal

abbrev pub invariant-loop-place : goal.invariant-loop-place
invariant-loop-place l = l.rest.items ++ left l.sum (drop l.place l.flexible) (drop l.place l.sizes) ≡ left l.sum l.flexible l.sizes
