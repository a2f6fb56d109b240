-- How many lengths there are in tracks, and a part of a list of tracks that has just their units.
use Rattle.std.specs.Prelude.{◌≡◌, ℤ, ℕ, ◌+◌, List, [], ◌∷◌, length, Option, Some, None}
use Rattle.style_types.specs.Computed.{computed_tracks}
use Rattle.style_types.specs.declared.track.Breadth.{Breadth}
use Rattle.style_types.specs.declared.track.Breadth.TheVariants as breadth
use Rattle.style_types.specs.declared.track.TrackFn.{TrackFn}
use Rattle.style_types.specs.declared.unit.Unit.{Unit}

abbrev pub breadth_lengths : Breadth → ℕ
breadth_lengths (breadth.Length px) = 1
breadth_lengths b = 0

abbrev pub fit_lengths : Option Breadth → ℕ
fit_lengths None = 0
fit_lengths (Some b) = breadth_lengths b

abbrev pub track_lengths : TrackFn → ℕ
track_lengths track = breadth_lengths track.least + breadth_lengths track.most + fit_lengths track.fit

abbrev pub tracks_lengths : List TrackFn → ℕ
tracks_lengths [] = 0
tracks_lengths (track ∷ tracks) = track_lengths track + tracks_lengths tracks

-- a part of a list stands as often as the units of its lengths, and these are just so many
pub record IsPartBy (em rem : ℤ) (tracks : ℕ × List TrackFn) (units : ℕ × List Unit) (once : List TrackFn) : Type 0 where
  pub same : tracks.0 ≡ units.0
  pub fits : length units.1 ≡ tracks_lengths tracks.1
  pub made : once ≡ (computed_tracks em rem tracks.1 units.1).0
