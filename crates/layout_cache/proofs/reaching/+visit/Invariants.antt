use Rattle.std.proofs.Common.{◌≡◌, ◌++◌}
use Rattle.plain_tree.specs.Trees.{size_of}
use Rattle.node_arena.specs.Numbers.{below_at, is_among}
use Rattle.layout_cache.specs.Reach.{reached, from_tree}
use Rattle.layout_cache.proofs.reaching.+visit.Given as goal

abbrev pub decreases-visit : goal.decreases-visit
decreases-visit g l = size_of (below_at l.tree.now.tree l.id)

abbrev pub invariant-loop-index : goal.invariant-loop-index
invariant-loop-index g l =
    l.found.items ++ reached g.T.Linked.subgrid (λ n. is_among n l.marks.touched) (λ n. is_among n l.marks.above) l.marks.grid l.felt (from_tree l.index (below_at l.tree.tree l.id))
    ≡ l.fn.found.items ++ reached g.T.Linked.subgrid (λ n. is_among n l.marks.touched) (λ n. is_among n l.marks.above) l.marks.grid l.felt (below_at l.tree.tree l.id)
