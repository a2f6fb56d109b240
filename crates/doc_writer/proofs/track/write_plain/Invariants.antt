use Rattle.std.proofs.Common.{◌≡◌, drop}
use Rattle.doc_writer.specs.Spaces.{put}
use Rattle.doc_writer.specs.Tracks.{plain_words, tracks_with}
use Rattle.doc_writer.proofs.track.write_plain.Given as goal

-- the tracks that are left, after those so far, are all
abbrev pub invariant-loop-size : goal.invariant-loop-size
invariant-loop-size l = put l.line (plain_words l.lines (tracks_with (drop l.size-index l.sizes) l.units).0) ≡ put l.fn.line (plain_words l.fn.lines (tracks_with l.sizes l.fn.units).0)
