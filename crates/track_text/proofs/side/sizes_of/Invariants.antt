use Rattle.std.proofs.Common.{◌≡◌, take}
use Rattle.track_text.specs.Sides.{sizes_of}
use Rattle.track_text.proofs.side.sizes_of.Given as goal

-- the sizes so far
abbrev pub invariant-loop-track : goal.invariant-loop-track
invariant-loop-track l = l.sizes ≡ sizes_of (take l.track-index l.tracks)
