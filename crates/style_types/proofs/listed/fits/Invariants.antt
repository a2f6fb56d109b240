use Rattle.std.proofs.Common.{◌≡◌, ◌+◌, drop}
use Rattle.style_types.specs.Parts.{tracks_lengths}
use Rattle.style_types.proofs.listed.fits.Given as goal

-- the units that are left are those of the tracks that are left, where all are those of all
abbrev pub invariant-loop-track : goal.invariant-loop-track
invariant-loop-track l = l.units + tracks_lengths (drop l.track-index l.tracks) ≡ l.left + tracks_lengths l.tracks
