use Rattle.track_sizing.proofs.Order.{IsRisingTo}
use Rattle.track_sizing.proofs.runs.are_rising.Given as goal

abbrev pub invariant-loop-item : goal.invariant-loop-item
invariant-loop-item l = IsRisingTo l.items l.item-index l.least
