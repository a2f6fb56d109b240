use Rattle.std.proofs.Common.{◌≡◌}
use Rattle.plain_tree.specs.Trees.{joined, size_of}
use Rattle.node_arena.specs.Numbers.{below_at}
use Rattle.layout_cache.specs.Reach.{from_tree}
use Rattle.page_tree.specs.Documents.{plain_trees}
use Rattle.page_tree.proofs.plain.+plain_at.Given as goal

abbrev pub decreases-plain_at : goal.decreases-plain_at
decreases-plain_at l = size_of (below_at l.tree.now.tree l.id)

abbrev pub invariant-loop-index : goal.invariant-loop-index
invariant-loop-index l = joined l.children (plain_trees (from_tree l.index (below_at l.tree.tree l.id))) ≡ plain_trees (below_at l.tree.tree l.id)
