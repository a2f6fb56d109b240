use Rattle.std.proofs.Common.{◌≡◌, drop}
use Rattle.doc_writer.specs.Tracks.{tracks_with}
use Rattle.doc_writer.proofs.track.units_after.Given as goal

-- the units after the tracks that are left are those after all
abbrev pub invariant-loop-size : goal.invariant-loop-size
invariant-loop-size l = (tracks_with (drop l.size-index l.sizes) l.left).1 ≡ (tracks_with l.sizes l.units).1
