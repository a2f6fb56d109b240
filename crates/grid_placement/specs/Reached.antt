-- How far searches have come that began at the first place, in dense mode.
use Rattle.std.specs.Prelude.{◌≡◌, ◌⊎◌, ℕ, ℤ, pos, ◌+ℤ◌, ◌≤ℤ◌, Bool, ◌&&◌, int_le, int_lt, nat_le, List, [], ◌∷◌, ◌++◌, slice_set, unwrap_or, if◌then◌else◌}
use Rattle.std.specs.declared.cmp.Ordering.{Ordering}
use Rattle.std.specs.List.{AllByRecursion}
use Rattle.std.specs.Ordering.{int_cmp, int_eq, nat_cmp, ordering_then}
use Rattle.std.specs.BTreeMap.{BTreeMap, get}
use Rattle.lunit.specs.declared.geometry.Area.{Area}
use Rattle.lunit.specs.declared.geometry.Span.{Span}
use Rattle.part_rules.specs.Placement as rules
use Rattle.part_rules.specs.Placement.{free_column, free_position, free_row, rows_to_search}
use Rattle.grid_placement.specs.declared.reached.SizeReached.{SizeReached}
use Rattle.grid_placement.specs.declared.search.Position.{Position}

-- the order of pairs of lines
abbrev pub lines_cmp : ℤ × ℤ → ℤ × ℤ → Ordering
lines_cmp x y = ordering_then (int_cmp x.0 y.0) (int_cmp x.1 y.1)

-- the order of spans of lines with a number of tracks
abbrev pub across_cmp : (ℤ × ℤ) × ℕ → (ℤ × ℤ) × ℕ → Ordering
across_cmp x y = ordering_then (lines_cmp x.0 y.0) (nat_cmp x.1 y.1)

-- the line that a search for so many tracks across a span has come to, or the first one
abbrev pub line_reached : BTreeMap ((ℤ × ℤ) × ℕ) ℤ → Span → ℕ → ℤ → ℤ
line_reached m across k first = unwrap_or (get across_cmp m ((across.start, across.end), k)) first

-- no search for columns finds one before the line that it has come to
pub record ColumnsReached (m : BTreeMap ((ℤ × ℤ) × ℕ) ℤ) (held : List Area) : Type 0 where
  pub low : (rows : Span) (k : ℕ) → pos 0 ≤ℤ line_reached m rows k (pos 0)
  pub each : (rows : Span) (k : ℕ) → line_reached m rows k (pos 0) ≤ℤ free_column held k rows (pos 0)

-- no search for rows finds one before the line that it has come to
pub record RowsReached (m : BTreeMap ((ℤ × ℤ) × ℕ) ℤ) (first : ℤ) (held : List Area) : Type 0 where
  pub low : (columns : Span) (l : ℕ) → first ≤ℤ line_reached m columns l first
  pub each : (columns : Span) (l : ℕ) → line_reached m columns l first ≤ℤ free_row held columns l first

-- in the flow's order the one position is not after the other
pub record NotAfter (p q : rules.Position) : Type 0 where
  pub rows : p.row ≤ℤ q.row
  pub columns : q.row ≤ℤ p.row → p.column ≤ℤ q.column

-- the position as the rules see it
abbrev pub position_of : Position → rules.Position
position_of p = record { column = p.column; row = p.row }

-- the one position is not after the other, as the code tests it
abbrev pub is_not_after : Position → Position → Bool
is_not_after p q = if int_eq p.row q.row then int_le p.column q.column else int_lt p.row q.row

-- the later one of two positions
abbrev pub later : Position → Position → Position
later p q = if is_not_after p q then q else p

-- whether so many columns and rows are at least as many in both axes as those of a search
abbrev pub serves : SizeReached → ℕ → ℕ → Bool
serves reached k l = nat_le reached.columns k && nat_le reached.rows l

-- the last position that a search has come to for no more columns and rows than these, or this one
abbrev pub position_reached : List SizeReached → ℕ → ℕ → Position → Position
position_reached [] k l last = last
position_reached (r ∷ rest) k l last = position_reached rest k l (if serves r k l then later last r.position else last)

-- one search more: behind the others, or in the place of one of them
pub record IsPut (reached : SizeReached) (old now : List SizeReached) : Type 0 where
  pub place : ℕ
  pub is : now ≡ slice_set old place reached

abbrev pub IsKeptToo : SizeReached → List SizeReached → List SizeReached → Type 0
IsKeptToo reached old now = (now ≡ old ++ reached ∷ []) ⊎ IsPut reached old now

-- a position between the first one and what a search from it finds
pub record IsReachedAt (columns : Span) (first : Position) (line : ℤ) (held : List Area) (k l : ℕ) (p : Position) : Type 0 where
  pub inside : columns.start ≤ℤ p.column
  pub near : p.column ≤ℤ line
  pub after : NotAfter (position_of first) (position_of p)
  pub before : (columns.start +ℤ pos k) ≤ℤ columns.end →
      NotAfter (position_of p) (free_position held columns k l (rows_to_search held first.row) (position_of first))

-- no search for a position finds one before the ones that searches have come to for no larger sizes
pub record PositionsReached (m : List SizeReached) (columns : Span) (first : Position) (line : ℤ) (held : List Area) : Type 0 where
  pub near : first.column ≤ℤ line
  pub each : AllByRecursion (λ (r : SizeReached). IsReachedAt columns first line held r.columns r.rows r.position) m
