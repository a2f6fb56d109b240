use Rattle.std.proofs.Common.{◌≡◌, length, codes}
use Rattle.std.specs.Option.{option_map}
use Rattle.track_text.specs.Words.{rest_up_to}
use Rattle.track_text.specs.Repeats.{entry_first, joined_read}
use Rattle.track_text.proofs.Joins.{joined_behind}
use Rattle.track_text.proofs.parts.entries_up_to.Given as goal

-- the entries so far, before those that are left, are all
abbrev pub invariant-loop-entries : goal.invariant-loop-entries
invariant-loop-entries l = option_map (joined_behind l.entries) (rest_up_to (codes ")") (entry_first l.relative) l.words) ≡ option_map joined_read (rest_up_to (codes ")") (entry_first l.relative) l.fn.words)

abbrev pub decreases-loop-entries : goal.decreases-loop-entries
decreases-loop-entries l = length l.words
