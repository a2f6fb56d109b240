use Rattle.track_sizing.proofs.Lows.{IsOrderedTo}
use Rattle.track_sizing.proofs.lasting.are_ordered.Given as goal

abbrev pub invariant-loop-item : goal.invariant-loop-item
invariant-loop-item l = IsOrderedTo l.items l.item-index
