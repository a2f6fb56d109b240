use Rattle.std.proofs.Common.{◌≡◌, ◌++◌}
use Rattle.plain_tree.specs.Trees.{size_of}
use Rattle.node_arena.specs.Numbers.{below_at}
use Rattle.layout_cache.specs.Reach.{from_tree}
use Rattle.page_tree.specs.Marking.{numbers_below}
use Rattle.page_tree.proofs.touched.+add_below.Given as goal

abbrev pub decreases-add_below : goal.decreases-add_below
decreases-add_below l = size_of (below_at l.tree.now.tree l.id)

-- what was found, with the numbers of the children that are left, is all
abbrev pub invariant-loop-index : goal.invariant-loop-index
invariant-loop-index l =
    l.found ++ numbers_below l.all l.before l.after l.rem (from_tree l.index (below_at l.tree.tree l.id)) ≡ l.fn.found ++ numbers_below l.all l.before l.after l.rem (below_at l.tree.tree l.id)
