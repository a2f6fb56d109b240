use Rattle.std.proofs.Common.{◌≡◌, ◌++◌}
use Rattle.plain_tree.specs.Trees.{size_of}
use Rattle.node_arena.specs.Numbers.{below_at}
use Rattle.layout_cache.specs.Reach.{from_tree}
use Rattle.page_tree.specs.Restyled.{styles_of}
use Rattle.page_tree.proofs.restyle.+collect.Given as goal

abbrev pub decreases-collect : goal.decreases-collect
decreases-collect l = size_of (below_at l.tree.now.tree l.id)

-- what was found, with the styles of the children that are left, is all
abbrev pub invariant-loop-index : goal.invariant-loop-index
invariant-loop-index l =
    l.found ++ styles_of l.em l.rem (from_tree l.index (below_at l.tree.tree l.id)) ≡ l.fn.found ++ styles_of l.em l.rem (below_at l.tree.tree l.id)
