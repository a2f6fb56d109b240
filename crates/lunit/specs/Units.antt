-- Numbers of units: one unit is one sixty-fourth of a CSS pixel (own rule).
use Rattle.std.specs.Prelude.{ℕ, ℤ, pos, ◌*ℤ◌, ◌≤ℤ◌, ◌^◌, neg_ℤ}
use Rattle.std.specs.Int.{int_div_euclid, int_max, int_min}

-- the greatest and the least length: 2^30 units and -2^30 units (own rule)
abbrev pub top : ℤ
top = pos 1073741824

abbrev pub bottom : ℤ
bottom = neg_ℤ top

abbrev pub IsUnits : ℤ → Type 0
IsUnits z = (bottom ≤ℤ z) × (z ≤ℤ top)

-- limited to the range of lengths (own rule)
unfoldable pub clamp : ℤ → ℤ
clamp z = int_max bottom (int_min top z)

-- z divided by d and rounded down, also below zero (own rule)
unfoldable pub floor_div : ℤ → ℕ → ℤ
floor_div z d = int_div_euclid z (pos d)

-- t thousandths of a percent of z, rounded down and limited (own rule)
abbrev pub percent : ℤ → ℕ → ℤ
percent z t = clamp (floor_div (z *ℤ pos t) 100000)

-- what a sum or a product on the way to a length may be
abbrev pub IsWide : ℤ → Type 0
IsWide z = (neg_ℤ (pos (2 ^ 126)) ≤ℤ z) × (z ≤ℤ pos (2 ^ 126))

-- what a position along an axis may be
abbrev pub IsLong : ℤ → Type 0
IsLong z = (neg_ℤ (pos (2 ^ 62)) ≤ℤ z) × (z ≤ℤ pos (2 ^ 62))
