use Rattle.std.proofs.Common.{◌≡◌, max}
use Rattle.plain_tree.specs.Trees.{height_of, size_of}
use Rattle.node_arena.specs.Numbers.{below_at}
use Rattle.layout_cache.specs.Reach.{from_tree}
use Rattle.page_tree.proofs.children.+height_below.Given as goal

abbrev pub decreases-height_below : goal.decreases-height_below
decreases-height_below l = size_of (below_at l.tree.now.tree l.id)

abbrev pub invariant-loop-index : goal.invariant-loop-index
invariant-loop-index l = max l.highest (height_of (from_tree l.index (below_at l.tree.tree l.id))) ≡ height_of (below_at l.tree.tree l.id)
