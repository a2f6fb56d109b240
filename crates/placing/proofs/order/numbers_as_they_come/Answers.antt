use Rattle.std.proofs.Common.{sym, ◌∙◌, ◌++◌, ◌∷◌, []}
use Rattle.placing.proofs.Numbers.{range_more}
use Rattle.placing.proofs.order.numbers_as_they_come.Goals as goal

pub loop-number-preserved : goal.loop-number-preserved
loop-number-preserved c = c.in_ok-push.ensures.items ∙ (λ j. c.loop-number.invariant j ++ c.loop-number.number ∷ []) ∙ sym (range_more c.loop-number.number)
