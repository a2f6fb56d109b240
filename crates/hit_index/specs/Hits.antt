-- The box under a point (own rule).
use Rattle.std.specs.Prelude.{◌≡◌, ℕ, ◌+◌, ◌≤◌, ◌^◌, ℤ, ◌+ℤ◌, int_le, int_lt, unsigned_abs, Bool, true, false, ◌&&◌, if◌then◌else◌, Option, Some, None, List, [], ◌∷◌, drop, filter, map, slice_get}
use Rattle.std.specs.List.{last_or, All}
use Rattle.std.specs.Option.{option_map_or}
use Rattle.lunit.specs.declared.geometry.Rect.{Rect}

-- the place lies at a start or after it, and before the end
abbrev pub is_within : ℤ → ℤ → ℤ → Bool
is_within start length place = int_le start place && int_lt place (start +ℤ length)

-- the box contains the point
abbrev pub contains : ℤ → ℤ → Rect → Bool
contains x y box = is_within box.x box.width x && is_within box.y box.height y

-- the numbers of the boxes that pass a test, in order, where the first box has the number k
abbrev pub numbers_from : ℕ → (Rect → Bool) → List Rect → List ℕ
numbers_from k passes [] = []
numbers_from k passes (box ∷ boxes) = if passes box then k ∷ numbers_from (k + 1) passes boxes else numbers_from (k + 1) passes boxes

-- the number, from 0, of the last box that contains the point
unfoldable pub hit_of : List Rect → ℤ → ℤ → Option ℕ
hit_of boxes x y = last_or None (numbers_from 0 (contains x y) boxes)

-- the box with this number contains the point, and none after it does
pub record IsLastHit (boxes : List Rect) (x y : ℤ) (number : ℕ) : Type 0 where
  pub box : Rect
  pub is : slice_get boxes number ≡ Some box
  pub hit : contains x y box ≡ true
  pub after : All (λ later. contains x y later ≡ false) (drop (number + 1) boxes)

-- the box with this number contains the point
unfoldable pub hits : List Rect → ℤ → ℤ → ℕ → Bool
hits boxes x y number = option_map_or (contains x y) (slice_get boxes number) false

-- the rectangles of boxes with their names
abbrev pub rects_of : List (List ℕ × Rect) → List Rect
rects_of boxes = map (λ box. box.1) boxes

-- the last box of these that contains the point
unfoldable pub box_under : List (List ℕ × Rect) → ℤ → ℤ → Option (List ℕ × Rect)
box_under boxes x y = last_or None (filter (λ box. contains x y box.1) boxes)

-- the box with this number, where there is a number
abbrev pub box_at : List (List ℕ × Rect) → Option ℕ → Option (List ℕ × Rect)
box_at boxes None = None
box_at boxes (Some number) = slice_get boxes number

-- what a number of a box may be
abbrev pub IsSmall : ℤ → Type 0
IsSmall units = unsigned_abs units ≤ 2 ^ 56

-- each number of the rectangle has a magnitude of at most 2^56
pub record IsSmallRect (rect : Rect) : Type 0 where
  pub x : IsSmall rect.x
  pub y : IsSmall rect.y
  pub width : IsSmall rect.width
  pub height : IsSmall rect.height

-- the rectangle of a box with its name is one of those
abbrev pub IsSmallBox : List ℕ × Rect → Type 0
IsSmallBox box = IsSmallRect box.1
