use Rattle.std.proofs.Common.{◌≡◌, drop}
use Rattle.doc_writer.specs.Spaces.{put}
use Rattle.doc_writer.specs.Tracks.{each_track, tracks_with}
use Rattle.doc_writer.proofs.track.write_sizes.Given as goal

-- the sizes that are left, after those so far, are all
abbrev pub invariant-loop-size : goal.invariant-loop-size
invariant-loop-size l = put l.line (each_track (tracks_with (drop l.size-index l.sizes) l.left).0) ≡ put l.fn.line (each_track (tracks_with l.sizes l.units).0)
