use Rattle.std.proofs.Common.{◌≡◌, map, take}
use Rattle.tree_rules.specs.Repetitions.{counted_track}
use Rattle.placing.proofs.counts.counted_tracks.Given as goal

abbrev pub invariant-loop-track : goal.invariant-loop-track
invariant-loop-track l = l.lengths ≡ map (counted_track l.size) (take l.track-index l.tracks)
