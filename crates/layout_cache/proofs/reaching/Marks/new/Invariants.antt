use Rattle.std.proofs.Common.{◌≡◌, drop}
use Rattle.std.specs.Prelude.{◌||◌}
use Rattle.node_arena.specs.declared.number.NodeId.{NodeId}
use Rattle.node_arena.specs.Numbers.{is_among}
use Rattle.layout_cache.specs.Reach.{is_above}
use Rattle.layout_cache.proofs.reaching.Marks.new.Given as goal

abbrev pub invariant-loop-id : goal.invariant-loop-id
invariant-loop-id g l =
    record {
      touched : (n : NodeId) → (is_among n l.set || is_among n (drop l.id-index l.touched)) ≡ is_among n l.touched;
      above : (n : NodeId) → (is_among n l.above || is_above l.tree.tree (drop l.id-index l.touched) n) ≡ is_above l.tree.tree l.touched n;
    }
