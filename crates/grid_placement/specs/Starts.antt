-- Where the search in a definite row begins.
use Rattle.std.specs.Prelude.{◌≡◌, ℕ, ℤ, pos, ◌≤ℤ◌, Bool, true, false, List, ◌++◌, length, map, filter, Option, Some, None, option_to_list, unwrap_or}
use Rattle.std.specs.Ordering.{int_cmp, int_eq}
use Rattle.std.specs.BTreeMap.{BTreeMap, get}
use Rattle.lunit.specs.declared.geometry.Area.{Area}
use Rattle.lunit.specs.declared.geometry.Span.{Span}
use Rattle.part_rules.specs.Lists.{greatest_with}
use Rattle.part_rules.specs.Placement.{row_area, with_area}
use Rattle.grid_placement.specs.declared.entry.Entry.{Entry}
use Rattle.grid_placement.specs.declared.starts.RowStarts.{RowStarts}
use Rattle.grid_placement.specs.Near.{AllEndBy}
use Rattle.grid_placement.specs.Entries.{reach, seen}
use Rattle.grid_placement.specs.Reached.{ColumnsReached, line_reached}

-- the line that is kept at a row start, or 0
abbrev pub line_at : BTreeMap ℤ ℤ → ℤ → ℤ
line_at ends row = unwrap_or (get int_cmp ends row) (pos 0)

-- where the search for so many columns in these rows begins
abbrev pub start_at : Bool → RowStarts → Span → ℕ → ℤ
start_at true starts rows k = line_reached starts.reached rows k (pos 0)
start_at false starts rows k = line_at starts.ends rows.start

-- the greatest end of those of these areas that begin in a row, or 0
abbrev pub end_in : List Area → ℤ → ℤ
end_in mine row = greatest_with (pos 0) (map (λ (a : Area). a.columns.end) (filter (λ (a : Area). int_eq a.rows.start row) mine))

-- what is kept at each row start is the greatest end of the areas that begin there
pub record AreEnds (ends : BTreeMap ℤ ℤ) (mine : List Area) : Type 0 where
  pub each : (row : ℤ) → line_at ends row ≡ end_in mine row

-- what is kept in either mode
abbrev pub Keeps : Bool → RowStarts → List Area → List Area → Type 0
Keeps true starts held mine = ColumnsReached starts.reached held
Keeps false starts held mine = AreEnds starts.ends mine

-- where there is an area, its columns are by a line
abbrev pub EndsBy : ℤ → Option Area → Type 0
EndsBy line None = Unit {0}
EndsBy line (Some a) = (a.columns.start ≤ℤ line) × (a.columns.end ≤ℤ line)

-- all that is kept is by a line
pub record AllBy (line : ℤ) (starts : RowStarts) : Type 0 where
  pub ends : (row : ℤ) → line_at starts.ends row ≤ℤ line
  pub reached : (rows : Span) (k : ℕ) → line_reached starts.reached rows k (pos 0) ≤ℤ line

-- between two items nothing is farther than so many items can reach
pub record IsReady (held : List Area) (starts : RowStarts) : Type 0 where
  pub near : AllEndBy (reach (length held)) held
  pub kept : AllBy (reach (length held)) starts

-- what one item does in the step of the definite rows
pub record IsRowStep (dense : Bool) (held mine : List Area) (before after : Entry) (now : List Area) (starts : RowStarts) : Type 0 where
  pub entry : seen after ≡ with_area (seen before) (row_area dense held mine before.wish.column before.wish.row)
  pub cells : now ≡ held ++ option_to_list (row_area dense held mine before.wish.column before.wish.row)
  pub kept : Keeps dense starts now (mine ++ option_to_list (row_area dense held mine before.wish.column before.wish.row))
