use Rattle.std.proofs.Common.{◌≡◌}
use Rattle.node_arena.specs.Faults.{is_top}
use Rattle.node_arena.specs.Numbers.{below_at}
use Rattle.layout_cache.specs.Reach.{from_tree}
use Rattle.page_tree.proofs.children.has_child.Given as goal

abbrev pub invariant-loop-index : goal.invariant-loop-index
invariant-loop-index l = is_top (from_tree l.index (below_at l.tree.tree l.parent)) l.id ≡ is_top (below_at l.tree.tree l.parent) l.id
