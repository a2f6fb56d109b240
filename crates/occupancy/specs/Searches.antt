-- What a search for a free place looks for: the least line where an area is free, and rows that it may leave out.
use Rattle.std.specs.Prelude.{◌≡◌, ℤ, pos, ◌+ℤ◌, ◌-ℤ◌, ◌≤ℤ◌, ◌<ℤ◌, true, false, List}
use Rattle.lunit.specs.declared.geometry.Area.{Area}
use Rattle.lunit.specs.Areas.{is_free}

-- the area with as many columns, from a line on
abbrev pub from_column : Area → ℤ → Area
from_column a line = record {
  columns = record { start = line; end = line +ℤ (a.columns.end -ℤ a.columns.start) };
  rows = a.rows;
}

-- the area with as many rows, from a line on
abbrev pub from_row : Area → ℤ → Area
from_row a line = record {
  columns = a.columns;
  rows = record { start = line; end = line +ℤ (a.rows.end -ℤ a.rows.start) };
}

-- the least line, from one on, where an area that is moved to it is free of these
pub record IsNext (moved : ℤ → Area) (held : List Area) (from line : ℤ) : Type 0 where
  pub after : from ≤ℤ line
  pub free : is_free (moved line) held ≡ true
  pub none : (before : ℤ) → from ≤ℤ before → before <ℤ line → is_free (moved before) held ≡ false

-- an area that begins between two rows is free of these only where it is free one row further up, too
pub record IsSteady (held : List Area) (row next : ℤ) : Type 0 where
  pub later : row <ℤ next
  pub up : (a : Area) → row <ℤ a.rows.start → a.rows.start <ℤ next → is_free a held ≡ true →
      is_free (from_row a (a.rows.start -ℤ pos 1)) held ≡ true
