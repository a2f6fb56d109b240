use Rattle.std.proofs.Common.{◌≡◌, length, codes}
use Rattle.std.specs.Option.{option_map}
use Rattle.track_text.specs.Words.{rest_up_to}
use Rattle.track_text.specs.Templates.{set_first}
use Rattle.track_text.specs.Gives.{behind}
use Rattle.track_text.proofs.subgrids.sets_up_to.Given as goal

-- the sets so far, before those that are left, are all
abbrev pub invariant-loop-sets : goal.invariant-loop-sets
invariant-loop-sets l = option_map (behind l.sets) (rest_up_to (codes ")") set_first l.words) ≡ rest_up_to (codes ")") set_first l.fn.words

abbrev pub decreases-loop-sets : goal.decreases-loop-sets
decreases-loop-sets l = length l.words
