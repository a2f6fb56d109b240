use Rattle.track_sizing.proofs.Initial.{AreStarted}
use Rattle.track_sizing.proofs.size.initialise.Given as goal

abbrev pub invariant-loop-rule : goal.invariant-loop-rule
invariant-loop-rule l = AreStarted l.fn.first l.rules l.rule-index l.at l.rows.items
