use Rattle.block_sizes.specs.Settling.{alongs}
use Rattle.block_sizes.proofs.KnownAlong.{quad_step}
use Rattle.block_sizes.proofs.flex.all_along.Goals as goal

pub loop-index-preserved : goal.loop-index-preserved
loop-index-preserved c =
    quad_step _ _ _ _ c.args.members.now c.args.sizes.now c.args.blocks.now c.args.items.now c.loop-index.index c.index-members-index.result c.index-sizes-index.result c.index-blocks-index.result c.index-items-index.result c.along_of-child.result c.loop-index.told _
    (alongs c.args.members.now c.args.sizes.now c.args.blocks.now c.args.items.now) c.loop-index-test.true c.requires.sizes c.requires.blocks c.requires.items c.index-members-index.is c.index-sizes-index.is c.index-blocks-index.is c.index-items-index.is c.along_of-child.ensures
    c.in_ok-push.ensures.ok c.loop-index.invariant
