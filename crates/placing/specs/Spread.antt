-- How far the edges of tracks lie from each other and from 0 (own rule: the range of positions).
use Rattle.std.specs.Prelude.{ℕ, ℤ, pos, ◌-ℤ◌, ◌≤ℤ◌, List, [], ◌∷◌}
use Rattle.tree_rules.specs.declared.query.Given.{Given}
use Rattle.tree_rules.specs.declared.query.Given.TheVariants as given

-- a track between these two places
pub record IsBetween (low high : ℤ) (track : ℤ × ℤ) : Type 0 where
  pub start_low : low ≤ℤ track.0
  pub start_high : track.0 ≤ℤ high
  pub end_low : low ≤ℤ track.1
  pub end_high : track.1 ≤ℤ high

-- tracks that all lie there
abbrev pub AreBetween : ℤ → ℤ → List (ℤ × ℤ) → Type 0
AreBetween low high [] = Unit {0}
AreBetween low high (e ∷ rest) = IsBetween low high e × AreBetween low high rest

-- Each edge differs from 0, and each two of them from each other, by at most so much.
pub record AreSpread (by : ℕ) (edges : List (ℤ × ℤ)) : Type 0 where
  pub low : ℤ
  pub high : ℤ
  pub below : low ≤ℤ pos 0
  pub above : pos 0 ≤ℤ high
  pub width : (high -ℤ low) ≤ℤ pos by
  pub between : AreBetween low high edges

-- the edges of the tracks that a node is given
abbrev pub IsSpread : ℕ → Given → Type 0
IsSpread by given.None = Unit {0}
IsSpread by (given.Size x) = Unit {0}
IsSpread by (given.Tracks edges gap) = AreSpread by edges
