-- How far a search goes on that looks for so many tracks in a row.
use Rattle.std.specs.Prelude.{◌≡◌, ℕ, ℤ, pos, ◌+ℤ◌, ◌-ℤ◌, ◌≤ℤ◌, ◌<ℤ◌, Bool, true, false, not, List, [], ◌∷◌, int_lt, if◌then◌else◌}
use Rattle.std.specs.Int.{int_max}
use Rattle.lunit.specs.Areas.{areas_overlap}
use Rattle.lunit.specs.declared.geometry.Area.{Area}
use Rattle.lunit.specs.declared.geometry.Span.{Span}
use Rattle.cell_index.specs.declared.columns.TakenColumns.{TakenColumns}
use Rattle.cell_index.specs.Taken.{holds, is_open}

-- the last line that there is
abbrev pub last_line : ℤ
last_line = pos 2147483647

-- so many tracks from a line on: of columns in these rows, or of rows in these columns
abbrev pub moved : Bool → Span → ℕ → ℤ → Area
moved false rows k line = record { columns = record { start = line; end = line +ℤ pos k }; rows = rows }
moved true columns k line = record { columns = columns; rows = record { start = line; end = line +ℤ pos k } }

-- From a line on, past each span that is taken and reached by so many tracks: what is taken changes at each of these lines.
abbrev pub passed : Bool → List ℤ → ℤ → ℕ → ℤ
passed false [] line k = line
passed true [] line k = int_max line last_line
passed false (e ∷ es) line k = if int_lt e (line +ℤ pos k) then passed true es line k else line
passed true (e ∷ es) line k = passed false es (int_max line e) k

-- whether a column of a span is taken in a band
abbrev pub is_shut : Span → TakenColumns → Bool
is_shut columns band = not (is_open band columns)

-- From a row on, past each band in which a column of a span is taken and that so many rows reach.
abbrev pub bands_passed : Span → Bool → List (ℤ × TakenColumns) → ℤ → ℕ → ℤ
bands_passed columns false [] line k = line
bands_passed columns true [] line k = int_max line last_line
bands_passed columns false (e ∷ es) line k = if int_lt e.0 (line +ℤ pos k) then bands_passed columns (is_shut columns e.1) es line k else line
bands_passed columns true (e ∷ es) line k = bands_passed columns (is_shut columns e.1) es (int_max line e.0) k

-- where an area ends along an axis
abbrev pub end_of : Bool → Area → ℤ
end_of false a = a.columns.end
end_of true a = a.rows.end

-- past each of these areas that so many tracks reach, one after another
abbrev pub areas_passed : Bool → Span → ℕ → List Area → ℤ → ℤ
areas_passed down across k [] line = line
areas_passed down across k (a ∷ rest) line = areas_passed down across k rest (if areas_overlap (moved down across k line) a then end_of down a else line)

-- so many tracks from a line on
abbrev pub reach : ℤ → ℕ → Span
reach line k = record { start = line; end = line +ℤ pos k }

-- From one line on to another: from each line before it so many columns are not open; from it they are, where it is the same.
pub record IsPassedOver (edges : List ℤ) (k : ℕ) (from to : ℤ) : Type 0 where
  pub later : from ≤ℤ to
  pub shut : (line : ℤ) → from ≤ℤ line → line <ℤ to → is_open edges (reach line k) ≡ false
  pub clear : to ≡ from → from <ℤ last_line → is_open edges (reach from k) ≡ true

-- a cell of the area is taken
pub record HasIn (is_taken : ℤ → ℤ → Bool) (area : Area) : Type 0 where
  pub row : ℤ
  pub column : ℤ
  pub inside : holds area row column ≡ true
  pub is : is_taken row column ≡ true

-- no cell of it is
pub record HasNone (is_taken : ℤ → ℤ → Bool) (area : Area) : Type 0 where
  pub each : (row column : ℤ) → holds area row column ≡ true → is_taken row column ≡ false

-- from one line up to before another an area has a taken cell wherever it is moved
pub record AreTaken (is_taken : ℤ → ℤ → Bool) (at : ℤ → Area) (from to : ℤ) : Type 0 where
  pub later : from ≤ℤ to
  pub each : (line : ℤ) → from ≤ℤ line → line <ℤ to → HasIn is_taken (at line)

-- and where a search did not go on, it has none
pub record IsPassed (is_taken : ℤ → ℤ → Bool) (at : ℤ → Area) (from to : ℤ) : Type 0 where
  pub taken : AreTaken is_taken at from to
  pub free : to ≡ from → from <ℤ last_line → HasNone is_taken (at from)

-- where it has come to, it has none
pub record IsReached (is_taken : ℤ → ℤ → Bool) (at : ℤ → Area) (from to : ℤ) : Type 0 where
  pub taken : AreTaken is_taken at from to
  pub free : to <ℤ last_line → HasNone is_taken (at to)

-- between two rows each cell is taken that is taken in the row before
pub record IsKept (is_taken : ℤ → ℤ → Bool) (row next : ℤ) : Type 0 where
  pub later : row <ℤ next
  pub each : (between column : ℤ) → row <ℤ between → between <ℤ next → is_taken (between -ℤ pos 1) column ≡ true → is_taken between column ≡ true
