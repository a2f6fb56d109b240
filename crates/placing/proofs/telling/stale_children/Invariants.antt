use Rattle.placing.specs.Kept.{turn_at}
use Rattle.placing.proofs.Stale.{AreStale}
use Rattle.placing.proofs.telling.stale_children.Given as goal

abbrev pub invariant-loop-index : goal.invariant-loop-index
invariant-loop-index l = AreStale (turn_at l.tree.tree) l.areas l.turns l.index l.stale
