use Rattle.std.proofs.Common.{◌≡◌, take}
use Rattle.placing.specs.Turns.{pairs_from}
use Rattle.box_layout.proofs.turns.numbered.Given as goal

abbrev pub invariant-loop-place : goal.invariant-loop-place
invariant-loop-place l = l.pairs.items ≡ pairs_from 0 (take l.place l.numbers)
