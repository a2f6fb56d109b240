use Rattle.track_sizing.proofs.Unspanned.{IsIdleTo}
use Rattle.track_sizing.proofs.alone.are_idle.Given as goal

abbrev pub invariant-loop-item : goal.invariant-loop-item
invariant-loop-item l = IsIdleTo l.gap l.items l.item-index
