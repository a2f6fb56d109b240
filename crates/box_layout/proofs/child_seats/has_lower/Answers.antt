use Rattle.std.proofs.Common.{sym, ◌∙◌}
use Rattle.box_layout.proofs.Lower.{lower_here, lower_past}
use Rattle.box_layout.proofs.child_seats.has_lower.Goals as goal

pub returns-then-is_lower : goal.returns-then-is_lower
returns-then-is_lower c = lower_here c.args.frames.now c.loop-index.index c.index-frames-index.result c.loop-index-test.true c.index-frames-index.is c.loop-index.invariant (sym c.is_lower.ensures ∙ c.if-is_lower.true)

pub loop-index-preserved : goal.loop-index-preserved
loop-index-preserved c = lower_past c.args.frames.now c.loop-index.index c.index-frames-index.result c.loop-index-test.true c.index-frames-index.is c.loop-index.invariant (sym c.is_lower.ensures ∙ c.if-is_lower.false)
