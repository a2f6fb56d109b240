use Rattle.std.proofs.Common.{arith}
use Rattle.flex_lines.proofs.Crossing.{all_passed}
use Rattle.flex_lines.proofs.crosses.greatest.Goals as goal

pub returns : goal.returns
returns c = all_passed c.loop-size.greatest c.args.outer.now c.loop-size.size-index c.loop-size.invariant.so_far (omega arith) c.loop-size.invariant.some
