use Rattle.std.proofs.Common.{◌≡◌, map, take}
use Rattle.lunit.specs.declared.geometry.Area.{Area}
use Rattle.node_arena.specs.declared.number.NodeId.{NodeId}
use Rattle.part_rules.specs.Placement.{range_of}
use Rattle.placing.specs.Along.{span_along}
use Rattle.placing.proofs.placement.range.Given as goal

abbrev pub invariant-loop-area : goal.invariant-loop-area
invariant-loop-area l = l.range ≡ range_of l.explicit (map (λ (e : NodeId × Area). span_along l.axis e.1) (take l.area-index l.areas))
