use Rattle.std.proofs.Common.{arith}
use Rattle.inline_sizes.proofs.Edges.{all_passed}
use Rattle.inline_sizes.proofs.distribution.greatest_of.Goals as goal

pub returns-clause-value : goal.returns-clause-value
returns-clause-value c = all_passed c.loop-size.greatest c.args.sizes.now c.loop-size.size-index c.loop-size.invariant.so_far (omega arith) c.loop-size.invariant.some c.loop-size.invariant.length
