use Rattle.node_arena.specs.Numbers.{below_at}
use Rattle.layout_cache.proofs.Reaches.{from_none}
use Rattle.page_tree.proofs.Removals.{next_is}
use Rattle.page_tree.proofs.children.child_at.Goals as goal

pub returns-in-Some-get-clause-some : goal.returns-in-Some-get-clause-some
returns-in-Some-get-clause-some c = next_is c.args.tree.now.tree c.args.id c.args.index c.in-Some.child c.in-Some-get._node.now c.in-Some.ensures.child c.in-Some-get.ensures

pub returns-in-None-clause-none : goal.returns-in-None-clause-none
returns-in-None-clause-none c = from_none (below_at c.args.tree.now.tree c.args.id) c.args.index c.in-None.ensures.number
