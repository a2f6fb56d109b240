use Rattle.std.proofs.Common.{◌≡◌, length, codes}
use Rattle.std.specs.Option.{option_map}
use Rattle.track_text.specs.Words.{rest_up_to}
use Rattle.track_text.specs.NameSets.{name_first}
use Rattle.track_text.specs.Gives.{behind}
use Rattle.track_text.proofs.name_sets.names_after.Given as goal

-- the names so far, before those that are left, are all
abbrev pub invariant-loop-names : goal.invariant-loop-names
invariant-loop-names l = option_map (behind l.names) (rest_up_to (codes "]") name_first l.words) ≡ rest_up_to (codes "]") name_first l.fn.words

abbrev pub decreases-loop-names : goal.decreases-loop-names
decreases-loop-names l = length l.words
