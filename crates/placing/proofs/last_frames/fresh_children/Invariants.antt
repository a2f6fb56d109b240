use Rattle.placing.specs.Kept.{turn_at}
use Rattle.placing.proofs.LastFrames.{AreMarked}
use Rattle.placing.proofs.last_frames.fresh_children.Given as goal

abbrev pub invariant-loop-index : goal.invariant-loop-index
invariant-loop-index l = AreMarked (turn_at l.tree.tree) l.areas l.turns l.index l.fresh.items
