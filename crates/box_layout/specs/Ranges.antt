-- The ranges of numbers on the way to a position.
use Rattle.std.specs.Prelude.{ℕ, ◌+◌, ◌-◌, ◌*◌, ℤ, pos, neg_ℤ, ◌^◌, ◌+ℤ◌, ◌-ℤ◌, ◌≤ℤ◌}

-- what an item leaves of a length, with its margins
abbrev pub IsRoom : ℤ → Type 0
IsRoom z = (neg_ℤ (pos (2 ^ 33)) ≤ℤ z) × (z ≤ℤ pos (2 ^ 33))

-- what its `auto` margins leave of that
abbrev pub IsRest : ℤ → Type 0
IsRest z = (neg_ℤ (pos (2 ^ 35)) ≤ℤ z) × (z ≤ℤ pos (2 ^ 35))

-- a position at most 2^36 from another one
pub record IsNearTo (start z : ℤ) : Type 0 where
  pub low : (start -ℤ pos (2 ^ 36)) ≤ℤ z
  pub high : z ≤ℤ (start +ℤ pos (2 ^ 36))

-- a border and a padding
abbrev pub IsEdges : ℤ → Type 0
IsEdges z = (pos 0 ≤ℤ z) × (z ≤ℤ pos (2 ^ 28))

-- a position in a content box
abbrev pub IsPlace : ℤ → Type 0
IsPlace z = (neg_ℤ (pos (2 ^ 60)) ≤ℤ z) × (z ≤ℤ pos (2 ^ 60))

-- a number of a magnitude of at most this
abbrev pub IsWithin : ℕ → ℤ → Type 0
IsWithin by z = (neg_ℤ (pos by) ≤ℤ z) × (z ≤ℤ pos by)

-- how far a border box starts from the start of its line across
abbrev pub IsNear : ℤ → Type 0
IsNear z = (neg_ℤ (pos (2 ^ 36)) ≤ℤ z) × (z ≤ℤ pos (2 ^ 36))

-- the sum of so many lengths
abbrev pub IsSum : ℕ → ℤ → Type 0
IsSum n z = (neg_ℤ (pos (1073741824 * n)) ≤ℤ z) × (z ≤ℤ pos (1073741824 * n))

-- the gaps between at most 65,536 children or lines
abbrev pub IsGaps : ℤ → Type 0
IsGaps z = (neg_ℤ (pos (2 ^ 46)) ≤ℤ z) × (z ≤ℤ pos (2 ^ 46))

-- a length with two margins
abbrev pub IsOuter : ℤ → Type 0
IsOuter z = (neg_ℤ (pos 3221225472) ≤ℤ z) × (z ≤ℤ pos 3221225472)

-- the sum of so many of them
abbrev pub IsOuterSum : ℕ → ℤ → Type 0
IsOuterSum n z = (neg_ℤ (pos (3221225472 * n)) ≤ℤ z) × (z ≤ℤ pos (3221225472 * n))

-- what a line leaves beside its children and the gaps between them
abbrev pub IsLineRest : ℤ → Type 0
IsLineRest z = (neg_ℤ (pos (2 ^ 48 + 2 ^ 31)) ≤ℤ z) × (z ≤ℤ pos (2 ^ 48 + 2 ^ 31))

-- what content distribution has
abbrev pub IsFree : ℤ → Type 0
IsFree z = (neg_ℤ (pos (2 ^ 49)) ≤ℤ z) × (z ≤ℤ pos (2 ^ 49))

-- what a child takes of its line, with its margins, what these take, and the gap after it
abbrev pub IsStep : ℤ → Type 0
IsStep z = (neg_ℤ (pos 6442450944) ≤ℤ z) × (z ≤ℤ pos 6442450944)

-- what the children before another one take
abbrev pub IsAlong : ℤ → Type 0
IsAlong z = (neg_ℤ (pos (6442450944 * 65536)) ≤ℤ z) × (z ≤ℤ pos (6442450944 * 65536))

-- what a line takes across with the gap after it
abbrev pub IsRow : ℤ → Type 0
IsRow z = (neg_ℤ (pos 2147483648) ≤ℤ z) × (z ≤ℤ pos 2147483648)

-- what the lines before another one take
abbrev pub IsRows : ℤ → Type 0
IsRows z = (neg_ℤ (pos (2 ^ 47)) ≤ℤ z) × (z ≤ℤ pos (2 ^ 47))

-- where a line starts across
abbrev pub IsReach : ℤ → Type 0
IsReach z = (neg_ℤ (pos (2 ^ 49 + 2 ^ 47)) ≤ℤ z) × (z ≤ℤ pos (2 ^ 49 + 2 ^ 47))

-- where a child starts in the content box of a flex container
abbrev pub IsSpot : ℤ → Type 0
IsSpot z = (neg_ℤ (pos (2 ^ 50 - 2 ^ 31)) ≤ℤ z) × (z ≤ℤ pos (2 ^ 50 - 2 ^ 31))
