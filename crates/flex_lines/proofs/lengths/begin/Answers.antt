use Rattle.std.proofs.Common.{arith}
use Rattle.std.proofs.lemmas.Int.{ints}
use Rattle.flex_lines.proofs.lengths.begin.Goals as goal

pub returns-clause-range : goal.returns-clause-range
returns-clause-range c = (omega (arith, ints, c.add.ensures, c.gaps.ensures.range.0, c.first_held.ensures.range.0), omega (arith, ints, c.add.ensures, c.gaps.ensures.range.1, c.first_held.ensures.range.1))
