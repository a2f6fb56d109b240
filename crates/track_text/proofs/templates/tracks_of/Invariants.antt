use Rattle.std.proofs.Common.{◌≡◌, length}
use Rattle.track_text.specs.Words.{all_from}
use Rattle.track_text.specs.TrackSizes.{track_first}
use Rattle.track_text.proofs.Joins.{all_with}
use Rattle.track_text.proofs.templates.tracks_of.Given as goal

-- the tracks so far, before those that are left, are all
abbrev pub invariant-loop-word : goal.invariant-loop-word
invariant-loop-word l = all_with l.tracks (all_from (track_first l.relative) l.words) ≡ all_from (track_first l.relative) l.fn.words

abbrev pub decreases-loop-word : goal.decreases-loop-word
decreases-loop-word l = length l.words
