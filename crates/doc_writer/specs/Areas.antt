-- The words of `grid-template-areas` (CSS Grid 2, 7.3): one string a row, with one space between its cells.
use Rattle.std.specs.Prelude.{ℕ, zero, suc, pos, ◌+◌, ◌==◌, Bool, true, false, ◌&&◌, int_le, int_lt, List, [], ◌∷◌, ◌++◌, if◌then◌else◌, Option, Some, None, codes}
use Rattle.lunit.specs.declared.geometry.Area.{Area}
use Rattle.lunit.specs.declared.geometry.Span.{Span}
use Rattle.style_types.specs.declared.value.Areas.{Areas}
use Rattle.track_text.specs.Words.{Word}

abbrev pub Named : Type 0
Named = Word × Area

-- the row or column of this number, from 0, lies in the span
abbrev pub is_in : ℕ → Span → Bool
is_in number span = int_le span.start (pos number) && int_lt (pos number) span.end

abbrev pub has_cell : Area → ℕ → ℕ → Bool
has_cell area row column = is_in row area.rows && is_in column area.columns

-- the name of the area that has the cell, and `.` where none has it
abbrev pub cell_word : List Named → ℕ → ℕ → Word
cell_word [] row column = codes "."
cell_word (named ∷ areas) row column = if has_cell named.1 row column then named.0 else cell_word areas row column

abbrev pub quote_if : Bool → List ℕ
quote_if true = 34 ∷ []
quote_if false = []

-- the cells of a row, so many from a column on. The first begins the string where the first argument says so, and the last ends it
abbrev pub cells_from : Bool → List Named → ℕ → ℕ → ℕ → List Word
cells_from opens areas row column zero = []
cells_from opens areas row column (suc rest) =
    (quote_if opens ++ (cell_word areas row column ++ quote_if (rest == 0))) ∷ cells_from false areas row (column + 1) rest

abbrev pub row_words : List Named → ℕ → ℕ → List Word
row_words areas columns row = if columns == 0 then codes "\"\"" ∷ [] else cells_from true areas row 0 columns

-- the rows from this one on
abbrev pub rows_from : List Named → ℕ → ℕ → ℕ → List Word
rows_from areas columns row zero = []
rows_from areas columns row (suc count) = row_words areas columns row ++ rows_from areas columns (row + 1) count

abbrev pub areas_words : Option Areas → List Word
areas_words None = codes "none" ∷ []
areas_words (Some areas) = rows_from areas.named areas.columns 0 areas.rows
