-- The ranges of numbers on the way to a size.
use Rattle.std.specs.Prelude.{ℕ, ◌+◌, ◌*◌, ◌<◌, ℤ, pos, neg_ℤ, ◌^◌, ◌≤ℤ◌, List}
use Rattle.std.specs.List.{All}
use Rattle.flex_lines.specs.declared.flexible.Flexible.{Flexible}

-- what an item is given
abbrev pub IsPart : ℤ → Type 0
IsPart z = (pos 0 ≤ℤ z) × (z ≤ℤ pos (2 ^ 30))

-- a length with margins
abbrev pub IsOuter : ℤ → Type 0
IsOuter z = (neg_ℤ (pos (2 ^ 31)) ≤ℤ z) × (z ≤ℤ pos (2 ^ 31))

-- a base size with what it is changed by
abbrev pub IsSize : ℤ → Type 0
IsSize z = (neg_ℤ (pos (2 ^ 32)) ≤ℤ z) × (z ≤ℤ pos (2 ^ 32))

-- a change of such a size
abbrev pub IsChange : ℤ → Type 0
IsChange z = (neg_ℤ (pos (2 ^ 33)) ≤ℤ z) × (z ≤ℤ pos (2 ^ 33))

-- what the items that a round freezes take
abbrev pub IsRound : ℤ → Type 0
IsRound z = (neg_ℤ (pos (2 ^ 63)) ≤ℤ z) × (z ≤ℤ pos (2 ^ 63))

-- a sum of as many lengths as a list can hold
abbrev pub IsSum : ℤ → Type 0
IsSum z = (neg_ℤ (pos (2 ^ 100)) ≤ℤ z) × (z ≤ℤ pos (2 ^ 100))

-- items with places before the end of a line of so many
abbrev pub ArePlaced : ℕ → List Flexible → Type 0
ArePlaced items fs = All (λ f. f.place < items) fs

-- the gaps between as many items as a list can hold
abbrev pub IsGaps : ℤ → Type 0
IsGaps z = (neg_ℤ (pos (2 ^ 94)) ≤ℤ z) × (z ≤ℤ pos (2 ^ 94))

-- what a line takes after so many rounds
abbrev pub IsTaken : ℕ → ℤ → Type 0
IsTaken rounds z = (neg_ℤ (pos (2 ^ 95 + 2 ^ 64 * rounds)) ≤ℤ z) × (z ≤ℤ pos (2 ^ 95 + 2 ^ 64 * rounds))
