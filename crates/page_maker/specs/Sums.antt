-- The sum that is printed of the boxes of a document (own rule).
use Rattle.std.specs.Prelude.{◌≡◌, refl, ℕ, ℤ, pos, neg_ℤ, ◌+ℤ◌, ◌*ℤ◌, ◌≤◌, ◌^◌, unsigned_abs, List, [], ◌∷◌, codes}
use Rattle.std.specs.Int.{int_rem_euclid}
use Rattle.lunit.specs.declared.geometry.Rect.{Rect}

-- x + 3y + 5 * width + 7 * height, in units
unfoldable pub weighted : Rect → ℤ
weighted rect = (rect.x +ℤ rect.y *ℤ pos 3) +ℤ (rect.width *ℤ pos 5 +ℤ rect.height *ℤ pos 7)

-- the sum of these over all boxes
abbrev pub sum_of : List (List ℕ × Rect) → ℤ
sum_of [] = pos 0
sum_of (box ∷ boxes) = weighted box.1 +ℤ sum_of boxes

-- a number modulo 2^64, at least 0
unfoldable pub rest_of : ℤ → ℕ
rest_of z = unsigned_abs (int_rem_euclid z (pos 18446744073709551616))

-- the sum modulo 2^64, at least 0
abbrev pub checksum : List (List ℕ × Rect) → ℕ
checksum boxes = rest_of (sum_of boxes)

abbrev pub IsSmall : ℤ → Type 0
IsSmall units = unsigned_abs units ≤ 2 ^ 56

-- each number has a magnitude of at most 2^56
pub record IsSmallRect (rect : Rect) : Type 0 where
  pub x : IsSmall rect.x
  pub y : IsSmall rect.y
  pub width : IsSmall rect.width
  pub height : IsSmall rect.height

abbrev pub IsSmallBox : List ℕ × Rect → Type 0
IsSmallBox box = IsSmallRect box.1

-- ---- examples

abbrev rect : ℤ → ℤ → ℤ → ℤ → Rect
rect x y width height = record { x = x; y = y; width = width; height = height }

-- a box of 1000 px by 0 px at the origin: 5 * 64,000
one_wide_box : checksum ((codes "n0", rect (pos 0) (pos 0) (pos 64000) (pos 0)) ∷ []) ≡ 320000
unfolding rest_of weighted
one_wide_box = refl

-- -64 + 3 * -64 + 5 * 1 is -251
below_zero : checksum ((codes "a", rect (neg_ℤ (pos 64)) (neg_ℤ (pos 64)) (pos 1) (pos 0)) ∷ []) ≡ 18446744073709551365
unfolding rest_of weighted
below_zero = refl
