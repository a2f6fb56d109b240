use Rattle.placing.proofs.Spliced.{IsRewritten}
use Rattle.placing.proofs.telling.write_items.Given as goal

abbrev pub invariant-loop-at : goal.invariant-loop-at
invariant-loop-at l = IsRewritten l.fn.items l.own l.start l.at l.other l.items
