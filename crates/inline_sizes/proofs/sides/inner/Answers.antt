use Rattle.inline_sizes.specs.Styled.{grid_at}
use Rattle.inline_sizes.proofs.InRange.{inner_from}
use Rattle.inline_sizes.proofs.sides.inner.Goals as goal

pub sum_of_two-requires : goal.sum_of_two-requires
sum_of_two-requires g c = inner_from (grid_at g.row.AXIS c.args.style.now) c.inner_start.result c.inner_end.result c.requires c.inner_start.ensures c.inner_end.ensures
