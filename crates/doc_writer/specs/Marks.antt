-- Which area has each cell, as it is kept while areas are written: 0 where none has it, and else one more than the index of
-- the area.
use Rattle.std.specs.Prelude.{◌≡◌, ℕ, zero, suc, ℤ, pos, ◌+◌, ◌/◌, ◌%◌, ◌<◌, min, unsigned_abs, Bool, true, false, ◌&&◌, nat_le, nat_lt, int_lt, List, [], ◌∷◌, ◌++◌, length, get_or, if◌then◌else◌, codes}
use Rattle.lunit.specs.declared.geometry.Area.{Area}
use Rattle.track_text.specs.Words.{Word}
use Rattle.doc_writer.specs.Areas.{Named, has_cell, quote_if}
use Rattle.doc_writer.specs.Tracks.{is_empty}

-- the mark of a cell by areas of which the first has this index
abbrev pub mark_from : ℕ → List Named → ℕ → ℕ → ℕ
mark_from index [] row column = 0
mark_from index (named ∷ areas) row column = if has_cell named.1 row column then index + 1 else mark_from (index + 1) areas row column

-- the name of the area of this index
abbrev pub name_at : List Named → ℕ → Word
name_at [] index = codes "."
name_at (named ∷ areas) zero = named.0
name_at (named ∷ areas) (suc index) = name_at areas index

-- what is written of a cell with this mark
abbrev pub mark_word : List Named → ℕ → Word
mark_word areas zero = codes "."
mark_word areas (suc index) = name_at areas index

-- the words of cells with these marks, of which the first begins a string where the first argument says so, and the last
-- ends it
abbrev pub marks_words : Bool → List Named → List ℕ → List Word
marks_words opens areas [] = []
marks_words opens areas (mark ∷ marks) = (quote_if opens ++ (mark_word areas mark ++ quote_if (is_empty marks))) ∷ marks_words false areas marks

-- the string of a row whose cells have these marks
abbrev pub string_words : List Named → List ℕ → List Word
string_words areas marks = if is_empty marks then codes "\"\"" ∷ [] else marks_words true areas marks

-- the marks of the cells, row by row, are those of these areas, of which the first has this index
pub record AreMarks (columns index : ℕ) (areas : List Named) (marks : List ℕ) : Type 0 where
  pub mark : (k : ℕ) → k < length marks → get_or marks k 0 ≡ mark_from index areas (k / columns) (k % columns)

-- a number of a row or column, limited to those that there are
abbrev pub limited : ℤ → ℕ → ℕ
limited number most = if int_lt number (pos 0) then 0 else min (unsigned_abs number) most

abbrev pub is_between : ℕ → ℕ → ℕ → Bool
is_between start end k = nat_le start k && nat_lt k end

-- of a list of marks those from a start to an end are this one, and the others as they were
pub record SetsRun (start end mark : ℕ) (old new : List ℕ) : Type 0 where
  pub same : length new ≡ length old
  pub each : (k : ℕ) → k < length old → get_or new k 0 ≡ (if is_between start end k then mark else get_or old k 0)

-- the cells of an area have this mark, and the others that they had
pub record SetsArea (columns : ℕ) (area : Area) (mark : ℕ) (old new : List ℕ) : Type 0 where
  pub same : length new ≡ length old
  pub each : (k : ℕ) → k < length old → get_or new k 0 ≡ (if has_cell area (k / columns) (k % columns) then mark else get_or old k 0)
