use Rattle.std.proofs.Common.{◌≡◌, map, take}
use Rattle.lunit.specs.declared.geometry.Area.{Area}
use Rattle.node_arena.specs.declared.number.NodeId.{NodeId}
use Rattle.placing.specs.Kept.{turn_at}
use Rattle.placing.proofs.telling.turns_of.Given as goal

abbrev pub invariant-loop-child : goal.invariant-loop-child
invariant-loop-child l = l.turns.items ≡ map (λ (e : NodeId × Area). turn_at l.tree.tree e.0) (take l.child-index l.areas)
