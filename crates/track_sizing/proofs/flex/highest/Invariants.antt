use Rattle.track_sizing.proofs.Highest.{IsHighest}
use Rattle.track_sizing.proofs.flex.highest.Given as goal

abbrev pub invariant-loop-item : goal.invariant-loop-item
invariant-loop-item l = IsHighest l.fn.one l.items l.item-index l.best
