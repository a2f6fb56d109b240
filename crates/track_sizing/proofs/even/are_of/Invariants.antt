use Rattle.track_sizing.proofs.Evenly.{IsOfTo}
use Rattle.track_sizing.proofs.even.are_of.Given as goal

abbrev pub invariant-loop-item : goal.invariant-loop-item
invariant-loop-item l = IsOfTo l.number l.items l.item-index
