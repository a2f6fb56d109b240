use Rattle.std.proofs.Common.{drop}
use Rattle.track_text.proofs.Holding.{Thinning}
use Rattle.track_text.proofs.kept.thinned.Given as goal

abbrev pub invariant-loop-entry : goal.invariant-loop-entry
invariant-loop-entry l = Thinning l.seen l.thinned (drop l.entry-index l.entries) l.entries
