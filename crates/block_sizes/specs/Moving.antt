-- Tracks that the content distribution moves (CSS Box Alignment 3, section 5), and the ranges of numbers on the way.
use Rattle.std.specs.Prelude.{◌+◌, ℕ, ℤ, pos, neg_ℤ, ◌^◌, ◌≤ℤ◌}
use Rattle.part_rules.specs.Alignment.{content_moved}
use Rattle.block_sizes.specs.declared.edges.Moving.{Moving}

-- how far the track of this number is moved, of those that are not collapsed
abbrev pub moved_by : Moving → ℕ → ℤ
moved_by m k = content_moved m.mode m.safe m.free k m.count

-- what tracks leave of their container
abbrev pub IsFree : ℤ → Type 0
IsFree z = (neg_ℤ (pos (2 ^ 48 + 2 ^ 31)) ≤ℤ z) × (z ≤ℤ pos (2 ^ 48 + 2 ^ 31))

-- the sizes of tracks and the gutters between them, added up
abbrev pub IsPlace : ℤ → Type 0
IsPlace z = (neg_ℤ (pos (2 ^ 48)) ≤ℤ z) × (z ≤ℤ pos (2 ^ 48))

-- an edge is no further from 0 than this
abbrev pub last_place : ℤ
last_place = pos (2 ^ 49 + 2 ^ 33)

abbrev pub first_place : ℤ
first_place = neg_ℤ (pos (2 ^ 49 + 2 ^ 33))
