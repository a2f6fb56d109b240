use Rattle.std.proofs.Common.{◌≡◌, length}
use Rattle.track_text.specs.Words.{all_from}
use Rattle.track_text.specs.Repeats.{part_first}
use Rattle.track_text.proofs.Joins.{all_with}
use Rattle.track_text.proofs.parts.parts_of.Given as goal

-- the parts so far, before those that are left, are all
abbrev pub invariant-loop-word : goal.invariant-loop-word
invariant-loop-word l = all_with l.parts (all_from (part_first l.relative) l.words) ≡ all_from (part_first l.relative) l.fn.words

abbrev pub decreases-loop-word : goal.decreases-loop-word
decreases-loop-word l = length l.words
