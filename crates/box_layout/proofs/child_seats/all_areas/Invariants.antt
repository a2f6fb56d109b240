use Rattle.std.proofs.Common.{◌≡◌, map, take}
use Rattle.lunit.specs.declared.geometry.Area.{Area}
use Rattle.node_arena.specs.declared.number.NodeId.{NodeId}
use Rattle.box_layout.proofs.child_seats.all_areas.Given as goal

abbrev pub invariant-loop-area : goal.invariant-loop-area
invariant-loop-area l = l.areas ≡ map (λ (e : NodeId × Area). e.1) (take l.area-index l.placed)
