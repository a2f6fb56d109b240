-- The ranges of numbers on the way to a view and to an extra margin.
use Rattle.std.specs.Prelude.{ℤ, pos, neg_ℤ, ◌^◌, ◌≤◌, ◌≤ℤ◌, List, unsigned_abs}
use Rattle.std.specs.List.{All}

-- a difference of two lengths, or a half of one
abbrev pub IsDifference : ℤ → Type 0
IsDifference z = (neg_ℤ (pos (2 ^ 31)) ≤ℤ z) × (z ≤ℤ pos (2 ^ 31))

-- the sum of as many lengths as a list can hold
abbrev pub IsSum : ℤ → Type 0
IsSum z = (neg_ℤ (pos (2 ^ 100)) ≤ℤ z) × (z ≤ℤ pos (2 ^ 100))

-- an edge of any magnitude
abbrev pub IsEdge : ℤ → Type 0
IsEdge z = (neg_ℤ (pos (2 ^ 63)) ≤ℤ z) × (z ≤ℤ pos (2 ^ 63))

-- what an edge is moved by
abbrev pub IsMove : ℤ → Type 0
IsMove z = (neg_ℤ (pos (2 ^ 57)) ≤ℤ z) × (z ≤ℤ pos (2 ^ 57))

-- an edge of a magnitude of at most 2^55 (own rule)
abbrev pub IsNear : ℤ → Type 0
IsNear edge = unsigned_abs edge ≤ 2 ^ 55

-- a track whose start and end are so near
pub record IsNearTrack (track : ℤ × ℤ) : Type 0 where
  pub start : IsNear track.0
  pub end : IsNear track.1

-- tracks that are all so near
abbrev pub AreNear : List (ℤ × ℤ) → Type 0
AreNear edges = All IsNearTrack edges

-- where a content box begins
abbrev pub IsOrigin : ℤ → Type 0
IsOrigin z = (neg_ℤ (pos (2 ^ 56)) ≤ℤ z) × (z ≤ℤ pos (2 ^ 56))
