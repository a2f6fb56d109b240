-- The tables of lines as the code keeps them.
use Rattle.std.specs.Prelude.{◌≡◌, ℕ, ◌<◌, ◌≤◌, nat_le, ℤ, pos, neg_ℤ, ◌+ℤ◌, ◌≤ℤ◌, ◌<ℤ◌, int_lt, int_le, Bool, ◌&&◌, IsTrue, List, [], length, get_or}
use Rattle.std.specs.List.{list_all}
use Rattle.lunit.specs.declared.geometry.Span.{Span}
use Rattle.part_rules.specs.LineNames.{NamedSpan, Table, holds_name, named_from, names_by_areas}
use Rattle.line_names.specs.Levels.{lines_under, names_in, seen_in}
use Rattle.line_names.specs.declared.levels.Level.{Level}
use Rattle.line_names.specs.declared.table.LineTable.TheInside.{Inside}

-- an area that lies in the lines from 0 to this number of tracks, and whose edges can be named
abbrev pub is_area : ℕ → NamedSpan → Bool
is_area tracks a = nat_le (length a.0) 58 && (int_le (pos 0) a.1.start && (int_lt a.1.start a.1.end && int_le a.1.end (pos tracks)))

-- all of these areas
abbrev pub are_areas : ℕ → List NamedSpan → Bool
are_areas tracks areas = list_all (is_area tracks) areas

-- a list of so many lines, each with the names that a function gives it
pub record AreLines (names : ℕ → List (List ℕ)) (count : ℕ) (lines : List (List (List ℕ))) : Type 0 where
  pub counted : length lines ≡ count
  pub named : (line : ℕ) → line < count → get_or lines line [] ≡ names line

-- the table of a grid of these levels
abbrev pub table_by : Span → Level → List Level → Table
table_by limit level above = record { tracks = level.tracks; lines = lines_under level above; areas = level.areas; low = limit.start; high = limit.end }

abbrev pub table_of : Inside → Table
table_of t = table_by t.limit t.level t.above

-- a span that lies in the lines that a table can have
pub record IsWithinLines (span : Span) : Type 0 where
  pub low : neg_ℤ (pos 10000) ≤ℤ span.start
  pub high : span.end ≤ℤ pos 65536

-- the limit of a grid or of a subgrid
pub record IsLimit (limit : Span) : Type 0 where
  pub low : neg_ℤ (pos 10000) ≤ℤ limit.start
  pub first : limit.start ≤ℤ pos 0
  pub some : limit.start <ℤ limit.end
  pub high : limit.end ≤ℤ (limit.start +ℤ pos 20000)

-- the limit of a table, which the topmost grid has too, its areas, whose names stand on its lines, and the lines of its names as its
-- index and the levels above have them
pub record IsTableBy (limit : Span) (base : ℤ) (level : Level) (above : List Level) : Type 0 where
  pub tracks : level.tracks ≤ 65536
  pub areas : IsTrue (are_areas level.tracks level.areas)
  pub fits : IsLimit limit
  pub low : neg_ℤ (pos 10000) ≤ℤ (base +ℤ limit.start)
  pub high : (base +ℤ limit.end) ≤ℤ pos 10000
  pub named : (name : List ℕ) (line : ℤ) → IsTrue (holds_name name (names_by_areas line level.areas)) →
      IsTrue (holds_name name (names_in (lines_under level above) line))
  pub lines : (name : List ℕ) → seen_in level.index above base limit.start limit.end name ≡ named_from name (pos 0) (lines_under level above)

abbrev pub IsTable : Inside → Type 0
IsTable t = IsTableBy t.limit t.base.line t.level t.above
