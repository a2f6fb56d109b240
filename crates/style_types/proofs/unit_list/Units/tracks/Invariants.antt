use Rattle.std.proofs.Common.{◌≡◌, drop, ◌++◌}
use Rattle.style_types.specs.Computed.{computed_tracks}
use Rattle.style_types.proofs.unit_list.Units.tracks.Given as goal

-- the tracks so far, before those that are still to be made, are all
abbrev pub invariant-loop-track : goal.invariant-loop-track
invariant-loop-track l = (l.made ++ (computed_tracks l.em l.rem (drop l.track-index l.tracks) l.self).0, (computed_tracks l.em l.rem (drop l.track-index l.tracks) l.self).1) ≡ computed_tracks l.em l.rem l.tracks l.fn.self
