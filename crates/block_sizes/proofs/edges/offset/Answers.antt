use Rattle.block_sizes.proofs.Open.{offset_near}
use Rattle.block_sizes.proofs.edges.offset.Goals as goal

pub returns-clause-range : goal.returns-clause-range
returns-clause-range c =
    let m = c.args.moving.now in
    offset_near c.offset_by.result m.mode m.safe m.free c.args.number m.count c.offset_by.ensures c.requires.free c.requires.number
