use Rattle.std.proofs.Common.{arith}
use Rattle.placing.specs.Nodes.{bare}
use Rattle.block_sizes.proofs.KnownAlong.{known_tells}
use Rattle.block_sizes.proofs.flex.known_of.Goals as goal

pub returns : goal.returns
returns c =
    known_tells (bare c.args.tree.now.tree) c.args.id c.args.width c.args.past.now c.args.member.now c.args.index c.index-past-index.result c.requires.past c.requires.child (omega arith) c.index-past-index.is (omega arith) (omega arith)
