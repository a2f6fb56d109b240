use Rattle.placing.proofs.Spliced.{AreMoved}
use Rattle.placing.proofs.telling.move_ends.Given as goal

abbrev pub invariant-loop-at : goal.invariant-loop-at
invariant-loop-at l = AreMoved l.fn.ends l.index l.less l.more l.at l.ends
