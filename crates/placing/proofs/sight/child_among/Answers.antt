use Rattle.std.specs.Prelude.{get_or}
use Rattle.node_arena.specs.declared.number.NodeId.{NodeId}
use Rattle.placing.specs.Nodes.{bare}
use Rattle.placing.proofs.Bares.{distinct_bare}
use Rattle.placing.proofs.Sights.{child_listed, next_there}
use Rattle.placing.proofs.sight.child_among.Goals as goal

abbrev no_node : NodeId
no_node = record { slot = 0; turn = 0 }

pub returns : goal.returns
returns c =
    next_there (bare c.args.tree.now.tree) (distinct_bare c.args.tree.now.tree c.stands.ensures.sound.distinct) c.args.id (get_or c.args.children.now c.args.index no_node) c.args.index
    (child_listed (bare c.args.tree.now.tree) c.args.id c.args.children.now c.args.index no_node c.requires.list c.requires.index)
