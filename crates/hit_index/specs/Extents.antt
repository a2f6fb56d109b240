-- Rectangles around runs of the boxes of a strip.
use Rattle.std.specs.Prelude.{◌≡◌, ℕ, ◌+◌, ◌*◌, ◌<◌, ◌≤◌, ℤ, int_le, int_lt, Bool, false, ◌&&◌, List, [], filter, take, drop, length, get_or}
use Rattle.lunit.specs.declared.geometry.Rect.{Rect}
use Rattle.hit_index.specs.Hits.{hits}
use Rattle.hit_index.specs.declared.extents.Extent.{Extent}

-- the place lies at the first edge or after it, and before the last
abbrev pub is_between : ℤ → ℤ → ℤ → Bool
is_between first last place = int_le first place && int_lt place last

-- the point lies between the edges
abbrev pub lies_inside : Extent → ℤ → ℤ → Bool
lies_inside extent x y = is_between extent.left extent.right x && is_between extent.top extent.bottom y

-- of the boxes with these numbers none contains a point that does not lie inside
pub record IsAround (boxes : List Rect) (numbers : List ℕ) (extent : Extent) : Type 0 where
  pub around : (x y : ℤ) → lies_inside extent x y ≡ false → filter (hits boxes x y) numbers ≡ []

-- each of the runs of sixty-four numbers, from the first on, has its edges
pub record AreAround (boxes : List Rect) (numbers : List ℕ) (extents : List Extent) : Type 0 where
  pub each : (run : ℕ) (d : Extent) → run < length extents → IsAround boxes (take 64 (drop (run * 64) numbers)) (get_or extents run d)

-- the runs are as many as it takes
abbrev pub CountsRuns : List ℕ → List Extent → Type 0
CountsRuns numbers extents = (length numbers ≤ length extents * 64) × (length extents * 64 < length numbers + 64)

-- the first so many strips have the edges of their runs
pub record AreRuns (boxes : List Rect) (strips : List (List ℕ)) (count : ℕ) (extents : List (List Extent)) : Type 0 where
  pub counted : length extents ≡ count
  pub counts : (j : ℕ) → j < count → CountsRuns (get_or strips j []) (get_or extents j [])
  pub around : (j : ℕ) → j < count → AreAround boxes (get_or strips j []) (get_or extents j [])
