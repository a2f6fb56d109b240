use Rattle.std.proofs.Common.{◌≡◌, drop, length}
use Rattle.flex_lines.specs.Rounds.{settled}
use Rattle.flex_lines.proofs.round.settle.Given as goal

abbrev pub invariant-loop-place : goal.invariant-loop-place
invariant-loop-place l = record {
  so_far : settled l.sum (drop l.place l.flexible) (drop l.place l.sizes) l.all.items ≡ settled l.sum l.flexible l.sizes l.fn.all.items;
  length : length l.all.items ≡ length l.fn.all.items;
}
