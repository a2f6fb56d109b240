use Rattle.subgrid_view.proofs.Halves.{after_in_range}
use Rattle.subgrid_view.proofs.gaps.half_after.Goals as goal

pub returns-clause-range : goal.returns-clause-range
returns-clause-range c = after_in_range c.args.difference c.half_before.result c.sub.result c.half_before.ensures.value c.sub.ensures c.requires
