-- Runs of equal tracks, as they are found while a track list is written.
use Rattle.std.specs.Prelude.{◌≡◌, ℕ, ◌+◌, ◌<◌, List, ◌++◌, drop}
use Rattle.style_types.specs.declared.track.TrackFn.{TrackFn}
use Rattle.style_types.specs.declared.unit.Unit.{Unit}
use Rattle.track_text.specs.declared.side.Track.{Track}
use Rattle.track_text.specs.Words.{Word}
use Rattle.doc_writer.specs.Tracks.{tracks_with, track_words, repeated, run_words, tracks_words}

-- a run of equal tracks: so many of the tracks after this one go on with it, and these units are left after them; the first of the sets is
-- that of the line after the track
pub record IsRun (track : Track) (lines : List (List Word)) (sizes : List TrackFn) (units : List Unit) (more : ℕ) (left : List Unit) : Type 0 where
  pub few : more < 10000
  pub text : run_words track 1 lines (tracks_with sizes units).0 ≡
      repeated (more + 1) (track_words track) ++ tracks_words (drop more lines) (tracks_with (drop more sizes) left).0
  pub after : (tracks_with (drop more sizes) left).1 ≡ (tracks_with sizes units).1
