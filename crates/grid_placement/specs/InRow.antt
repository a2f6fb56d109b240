-- The search in one row.
use Rattle.std.specs.Prelude.{◌≡◌, ℕ, ℤ, ◌≤ℤ◌, ◌<ℤ◌, true, false, List}
use Rattle.lunit.specs.Areas.{is_free}
use Rattle.lunit.specs.declared.geometry.Area.{Area}
use Rattle.lunit.specs.declared.geometry.Span.{Span}
use Rattle.part_rules.specs.Placement.{to_end}

-- from a column on and before another, no place for so many columns is free in these rows
pub record NoneFree (held : List Area) (k : ℕ) (rows : Span) (from before : ℤ) : Type 0 where
  pub taken : (x : ℤ) → from ≤ℤ x → x <ℤ before → is_free (record { columns = to_end x k; rows = rows }) held ≡ false

-- the first free place for so many columns, from a column on, which ends by a line
pub record IsFirst (held : List Area) (k : ℕ) (rows : Span) (from end : ℤ) (columns : Span) : Type 0 where
  pub span : columns ≡ to_end columns.start k
  pub after : from ≤ℤ columns.start
  pub within : columns.end ≤ℤ end
  pub free : is_free (record { columns = columns; rows = rows }) held ≡ true
  pub none : NoneFree held k rows from columns.start

-- in the rows strictly between two rows, no place is free for so many columns and rows from a column on and before another
pub record NoneBetween (held : List Area) (k l : ℕ) (from before row next : ℤ) : Type 0 where
  pub taken : (x y : ℤ) → row <ℤ y → y <ℤ next → from ≤ℤ x → x <ℤ before → is_free (record { columns = to_end x k; rows = to_end y l }) held ≡ false
