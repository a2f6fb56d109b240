use Rattle.std.proofs.Common.{◌≡◌, map, take}
use Rattle.lunit.specs.declared.geometry.Area.{Area}
use Rattle.node_arena.specs.Numbers.{child_at}
use Rattle.node_arena.specs.declared.number.NodeId.{NodeId}
use Rattle.placing.specs.Areas.{child_in}
use Rattle.placing.specs.Insides.{cut_to}
use Rattle.placing.specs.Nodes.{bare}
use Rattle.placing.proofs.placement.cut_areas.Given as goal

abbrev pub invariant-loop-index : goal.invariant-loop-index
invariant-loop-index l =
    record {
      children : map (child_at (bare l.tree.tree) l.id) (take l.index l.numbers) ≡ map child_in l.cut.items;
      areas : map (λ (e : NodeId × Area). e.1) l.cut.items ≡ map (cut_to l.limits) (take l.index l.areas);
    }
