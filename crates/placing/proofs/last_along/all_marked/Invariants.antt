use Rattle.std.proofs.Common.{◌≡◌, map, take}
use Rattle.placing.specs.Kept.{turn_at}
use Rattle.placing.specs.Told.{along_marked}
use Rattle.placing.proofs.last_along.all_marked.Given as goal

abbrev pub invariant-loop-child : goal.invariant-loop-child
invariant-loop-child l = l.made.items ≡ map (along_marked (turn_at l.tree.tree)) (take l.child-index l.told)
