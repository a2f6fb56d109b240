-- Sixty-four strips, one below the other, from the first y of the boxes to the last (own rule).
use Rattle.std.specs.Prelude.{◌≡◌, ℕ, ◌+◌, ◌<◌, ◌≤◌, ℤ, pos, ◌+ℤ◌, ◌-ℤ◌, ◌*ℤ◌, ◌≤ℤ◌, ◌<ℤ◌, int_lt, Bool, true, ◌&&◌, if◌then◌else◌, List, [], ◌∷◌, ◌++◌, fold, length, get_or}
use Rattle.std.specs.Int.{int_max, int_min}
use Rattle.lunit.specs.Units.{floor_div}
use Rattle.lunit.specs.declared.geometry.Rect.{Rect}
use Rattle.hit_index.specs.Hits.{contains, numbers_from}

-- the least y of the boxes; 0 where there are none
abbrev pub top_of : List Rect → ℤ
top_of [] = pos 0
top_of (box ∷ boxes) = fold (λ top other. int_min top other.y) box.y boxes

-- the greatest y + height of the boxes; 0 where there are none
abbrev pub bottom_of : List Rect → ℤ
bottom_of [] = pos 0
bottom_of (box ∷ boxes) = fold (λ bottom other. int_max bottom (other.y +ℤ other.height)) (box.y +ℤ box.height) boxes

-- j sixty-fourths of the way from the top to the bottom, rounded down
unfoldable pub edge_between : ℤ → ℤ → ℕ → ℤ
edge_between top bottom j = top +ℤ floor_div ((bottom -ℤ top) *ℤ pos j) 64

-- the y at which strip j begins, and strip j - 1 ends
abbrev pub edge : List Rect → ℕ → ℤ
edge boxes j = edge_between (top_of boxes) (bottom_of boxes) j

-- the box contains some point with a y from one number up to, not including, another
abbrev pub reaches : ℤ → ℤ → Rect → Bool
reaches from to box = int_lt (pos 0) box.width && int_lt (int_max from box.y) (int_min to (box.y +ℤ box.height))

-- the numbers, from 0, of the boxes that contain some point with a y of strip j, in order
unfoldable pub strip_of : List Rect → ℕ → List ℕ
strip_of boxes j = numbers_from 0 (reaches (edge boxes j) (edge boxes (j + 1))) boxes

-- the box contains a point with a y from one number up to, not including, another
pub record HasPoint (from to : ℤ) (box : Rect) : Type 0 where
  pub x : ℤ
  pub y : ℤ
  pub first : from ≤ℤ y
  pub last : y <ℤ to
  pub is : contains x y box ≡ true

-- these are the first so many edges of the strips of the boxes
pub record AreEdges (boxes : List Rect) (count : ℕ) (edges : List ℤ) : Type 0 where
  pub counted : length edges ≡ count
  pub each : (j : ℕ) → j < count → get_or edges j (pos 0) ≡ edge boxes j

-- no strip ends before it begins
pub record AreRising (edges : List ℤ) : Type 0 where
  pub rises : (i j : ℕ) → i ≤ j → j < 65 → get_or edges i (pos 0) ≤ℤ get_or edges j (pos 0)

-- the box contains some point with a y of strip j, where the strips lie between these edges
abbrev pub reaches_strip : List ℤ → Rect → ℕ → Bool
reaches_strip edges box j = reaches (get_or edges j (pos 0)) (get_or edges (j + 1) (pos 0)) box

-- a number where it is wanted
abbrev pub one_if : Bool → ℕ → List ℕ
one_if wanted number = if wanted then number ∷ [] else []

-- a box is added to sixty-four strips: each that it reaches has its number besides what it had
pub record AddsBox (edges : List ℤ) (box : Rect) (number : ℕ) (old new : List (List ℕ)) : Type 0 where
  pub count : length new ≡ 64
  pub each : (j : ℕ) → j < 64 → get_or new j [] ≡ get_or old j [] ++ one_if (reaches_strip edges box j) number

-- the strips of these boxes between these edges
pub record AreStrips (edges : List ℤ) (boxes : List Rect) (strips : List (List ℕ)) : Type 0 where
  pub count : length strips ≡ 64
  pub each : (j : ℕ) → j < 64 → get_or strips j [] ≡ numbers_from 0 (λ box. reaches_strip edges box j) boxes
