use Rattle.std.proofs.Common.{◌≡◌, ◌≤◌, ◌++◌, take, drop, length}
use Rattle.track_text.specs.Templates.{tracks_of, kept_tracks}
use Rattle.track_text.specs.Kept.{entries_of}
use Rattle.track_text.proofs.kept.part_tracks.Given as goal

-- the tracks so far, before those of the parts that are left, are all, as far as they are kept
abbrev pub invariant-loop-part : goal.invariant-loop-part
invariant-loop-part l = record {
  few : length l.tracks ≤ 10000;
  all : take 10000 (l.tracks ++ tracks_of (entries_of (drop l.part-index l.parts))) ≡ kept_tracks (entries_of l.parts);
}
