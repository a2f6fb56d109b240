use Rattle.node_arena.specs.Numbers.{below_at}
use Rattle.layout_cache.proofs.Reaches.{from_none}
use Rattle.page_tree.proofs.Restyled.{next_styled}
use Rattle.page_tree.proofs.restyle.child_at.Goals as goal

pub returns-in-None-clause-none : goal.returns-in-None-clause-none
returns-in-None-clause-none c = from_none (below_at c.args.tree.now.tree c.args.id) c.args.index c.in-None.ensures.number

pub returns-in_ok-style-in-Some-get-clause-some : goal.returns-in_ok-style-in-Some-get-clause-some
returns-in_ok-style-in-Some-get-clause-some c =
    next_styled c.args.em c.args.rem c.args.tree.now.tree c.args.id c.args.index c.in-Some.child c.in-Some-get.node.now c.font-font.result c.in_ok-style-in-Some-get.style c.in-Some.ensures.child c.in-Some-get.ensures c.font-font.ensures c.in_ok-style-in-Some-get.ensures
