use Rattle.std.proofs.Common.{◌≡◌, map, take}
use Rattle.lunit.specs.declared.geometry.Area.{Area}
use Rattle.node_arena.specs.declared.number.NodeId.{NodeId}
use Rattle.box_layout.proofs.row_views.row_spans.Given as goal

abbrev pub invariant-loop-area : goal.invariant-loop-area
invariant-loop-area l = l.spans.items ≡ map (λ (e : NodeId × Area). e.1.rows) (take l.area-index l.areas)
