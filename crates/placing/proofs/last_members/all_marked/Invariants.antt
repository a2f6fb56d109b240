use Rattle.std.proofs.Common.{◌≡◌, map, take}
use Rattle.placing.specs.Kept.{turn_at}
use Rattle.placing.specs.Told.{marked_at}
use Rattle.placing.proofs.last_members.all_marked.Given as goal

abbrev pub invariant-loop-child : goal.invariant-loop-child
invariant-loop-child l = l.made.items ≡ map (marked_at (turn_at l.tree.tree)) (take l.child-index l.told)
