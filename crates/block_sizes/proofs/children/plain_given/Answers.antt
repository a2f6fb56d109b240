use Rattle.std.proofs.Common.{rules}
use Rattle.inline_sizes.specs.Styled.{content_at, grid_at}
use Rattle.block_sizes.proofs.PlainChildren.{given_told}
use Rattle.block_sizes.proofs.children.plain_given.Goals as goal

pub returns-clause-value : goal.returns-clause-value
returns-clause-value g c = given_told (grid_at g.row.AXIS c.args.style.now) (content_at g.row.AXIS c.args.style.now) c.args.size c.requires.plain (search rules)
