use Rattle.std.proofs.Common.{arith}
use Rattle.flex_lines.proofs.JustFull.{sized_all, sized_more}
use Rattle.flex_lines.proofs.full.are_sized.Goals as goal

pub loop-item-preserved : goal.loop-item-preserved
loop-item-preserved c = sized_more c.args.items.now c.loop-item.item-index c.item-item.result c.loop-item-test.true c.item-item.is c.loop-item.invariant (c.is_sized.ensures c.if-not-is_sized.false)

pub returns : goal.returns
returns c = λ e. sized_all c.args.items.now c.loop-item.item-index (omega arith) c.loop-item.invariant
