use Rattle.std.proofs.Common.{◌≡◌, ◌++◌, [], drop}
use Rattle.track_text.specs.Sides.{units_before}
use Rattle.track_text.proofs.templates.push_units.Given as goal

-- the units so far, before those of the tracks that are left, are all
abbrev pub invariant-loop-track : goal.invariant-loop-track
invariant-loop-track l = l.units ++ units_before (drop l.track-index l.tracks) [] ≡ l.fn.units ++ units_before l.tracks []
