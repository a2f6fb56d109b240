use Rattle.std.proofs.Common.{drop}
use Rattle.tree_rules.specs.KeptAnswers.{IsAbsent}
use Rattle.layout_cache.proofs.kept.Kept.find_from_newest.Given as goal

abbrev pub invariant-loop-left : goal.invariant-loop-left
invariant-loop-left g l = IsAbsent (record { ask = l.ask; reps = l.reps; inline = l.inline; block = l.block }) (drop l.left l.self)

abbrev pub decreases-loop-left : goal.decreases-loop-left
decreases-loop-left g l = l.left
