use Rattle.std.proofs.Common.{◌≡◌, length}
use Rattle.doc_writer.specs.Spaces.{put}
use Rattle.doc_writer.specs.Tracks.{tracks_words, tracks_with}
use Rattle.doc_writer.proofs.track.write_tracks.Given as goal

abbrev pub decreases-loop-size : goal.decreases-loop-size
decreases-loop-size l = length l.sizes

-- the tracks that are left, after those so far, are all
abbrev pub invariant-loop-size : goal.invariant-loop-size
invariant-loop-size l = record {
  text : put l.line (tracks_words l.lines (tracks_with l.sizes l.left).0) ≡ put l.fn.line (tracks_words l.fn.lines (tracks_with l.fn.sizes l.units).0);
  units : (tracks_with l.sizes l.left).1 ≡ (tracks_with l.fn.sizes l.units).1;
}
