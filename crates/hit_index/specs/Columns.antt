-- Columns across the page, by which most boxes are passed by without a look at them.
use Rattle.std.specs.Prelude.{◌≡◌, ℕ, ◌+◌, ◌-◌, ◌/◌, ◌%◌, ◌^◌, ◌<◌, min, nat_le, ℤ, ◌-ℤ◌, unsigned_abs, Bool, true, List, length, get_or}
use Rattle.std.specs.Int.{int_max}
use Rattle.lunit.specs.declared.geometry.Rect.{Rect}
use Rattle.hit_index.specs.Hits.{contains}
use Rattle.hit_index.specs.declared.columns.Grid.{Grid}
use Rattle.hit_index.specs.declared.columns.ColumnRange.{ColumnRange}

-- the column of an x: how far it lies from the left, in parts of a power of two, and at most 255
unfoldable pub column_of : Grid → ℤ → ℕ
column_of grid x = min 255 (unsigned_abs (int_max x grid.left -ℤ grid.left) / 2 ^ grid.shift)

-- the column is the first or one of so many after it, where 0 comes after 255
unfoldable pub reaches_column : ColumnRange → ℕ → Bool
reaches_column range column = nat_le ((column + (2 ^ 8 - range.first)) % 2 ^ 8) range.more

-- a box that contains a point reaches the column of its x
pub record IsRangeOf (grid : Grid) (box : Rect) (range : ColumnRange) : Type 0 where
  pub told : (x y : ℤ) → contains x y box ≡ true → reaches_column range (column_of grid x) ≡ true

-- the first so many boxes have their ranges
pub record AreRanges (grid : Grid) (boxes : List Rect) (count : ℕ) (ranges : List ColumnRange) : Type 0 where
  pub counted : length ranges ≡ count
  pub each : (k : ℕ) (box : Rect) (d : ColumnRange) → k < count → IsRangeOf grid (get_or boxes k box) (get_or ranges k d)

-- each box that contains the point reaches the column
pub record TellColumn (x y : ℤ) (boxes : List Rect) (ranges : List ColumnRange) (column : ℕ) : Type 0 where
  pub told : (k : ℕ) (box : Rect) (d : ColumnRange) → k < length boxes → contains x y (get_or boxes k box) ≡ true →
      reaches_column (get_or ranges k d) column ≡ true
