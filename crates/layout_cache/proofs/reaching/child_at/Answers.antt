use Rattle.node_arena.specs.Numbers.{below_at}
use Rattle.layout_cache.proofs.Reaches.{from_none, joined_child}
use Rattle.layout_cache.proofs.reaching.child_at.Goals as goal

pub returns-in-Some-clause-some : goal.returns-in-Some-clause-some
returns-in-Some-clause-some g c = joined_child g.T.Linked.subgrid _ c.args.id c.args.index c.args.felt c.in-Some.child _ c.in-Some.ensures.child c.feels_too.ensures

pub returns-in-None-clause-none : goal.returns-in-None-clause-none
returns-in-None-clause-none g c = from_none (below_at c.args.tree.now.tree c.args.id) c.args.index c.in-None.ensures.number
