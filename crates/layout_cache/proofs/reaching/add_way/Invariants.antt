use Rattle.std.proofs.Common.{◌≡◌, length}
use Rattle.std.specs.Prelude.{◌||◌, IfSome, IsTrue}
use Rattle.node_arena.specs.declared.number.NodeId.{NodeId}
use Rattle.node_arena.specs.Numbers.{way_up, way_of, is_among}
use Rattle.node_arena.specs.Plain.{is_live}
use Rattle.layout_cache.proofs.reaching.add_way.Given as goal

abbrev pub invariant-loop-next : goal.invariant-loop-next
invariant-loop-next g l =
    record {
      way : (n : NodeId) → (is_among n (way_of l.tree.tree l.next) || is_among n l.above) ≡ (is_among n (way_up l.tree.tree l.fn.id) || is_among n l.fn.above);
      live : IfSome l.next (λ number. IsTrue (is_live l.tree number));
    }

abbrev pub decreases-loop-next : goal.decreases-loop-next
decreases-loop-next g l = length (way_of l.tree.tree l.next)
