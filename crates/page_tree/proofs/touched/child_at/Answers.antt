use Rattle.node_arena.specs.Numbers.{below_at}
use Rattle.page_tree.proofs.Marking.{next_below}
use Rattle.layout_cache.proofs.Reaches.{from_none}
use Rattle.page_tree.proofs.touched.child_at.Goals as goal

pub returns-in-Some-get-clause-some : goal.returns-in-Some-get-clause-some
returns-in-Some-get-clause-some c =
    next_below c.args.before c.args.after c.args.rem c.args.tree.now.tree c.args.id c.args.index c.in-Some.child c.in-Some-get.node.now c.font-first.result c.font-second.result c.in-Some.ensures.child c.in-Some-get.ensures c.font-first.ensures c.font-second.ensures

pub returns-in-None-clause-none : goal.returns-in-None-clause-none
returns-in-None-clause-none c = from_none (below_at c.args.tree.now.tree c.args.id) c.args.index c.in-None.ensures.number
