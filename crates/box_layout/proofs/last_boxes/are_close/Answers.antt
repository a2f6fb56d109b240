use Rattle.std.proofs.Common.{subst, sym}
use Rattle.tree_rules.specs.Answers.{Box}
use Rattle.box_layout.specs.LastBoxes.{IsClose}
use Rattle.box_layout.proofs.FoundBoxes.{close_next}
use Rattle.box_layout.proofs.last_boxes.are_close.Goals as goal

pub loop-index-preserved : goal.loop-index-preserved
loop-index-preserved c = close_next c.args.boxes.now c.loop-index.index c.index-boxes-index.result c.loop-index-test.true c.index-boxes-index.is (subst (λ (z : Box). IsClose z.1) (sym c.index-boxes-index.is) (c.is_close.ensures c.if-not-is_close.false)) c.loop-index.invariant
