use Rattle.walker.specs.Walkers.{nodes}
use Rattle.block_sizes.proofs.flex.last_along.Goals as goal

pub returns-clause-past : goal.returns-clause-past
returns-clause-past g c = c.told_at-told.ensures (nodes c.args.walk.now) c.args.id c.in_ok-past.ensures.told
