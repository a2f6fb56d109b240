use Rattle.std.proofs.Common.{length}
use Rattle.node_arena.specs.Numbers.{way_of}
use Rattle.layout_cache.proofs.reaching.+add_way_down.Given as goal

abbrev pub decreases-add_way_down : goal.decreases-add_way_down
decreases-add_way_down g l = length (way_of l.tree.now.tree l.next)
