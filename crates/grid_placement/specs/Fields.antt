-- Where the items that are left are placed, as the code keeps it.
use Rattle.std.specs.Prelude.{Bool, true, false, ℕ, ◌≡◌, ℤ, pos, ◌+ℤ◌, ◌≤ℤ◌, List, [], ◌∷◌, ◌++◌, length, map, Option, option_to_list, int_lt, if◌then◌else◌}
use Rattle.lunit.specs.declared.geometry.Area.{Area}
use Rattle.lunit.specs.declared.geometry.Span.{Span}
use Rattle.lunit.specs.declared.geometry.Spot.{Spot}
use Rattle.lunit.specs.declared.geometry.Spot.TheVariants.{At, Free}
use Rattle.part_rules.specs.Placement as rules
use Rattle.part_rules.specs.Placement.{with_span, definite_span, next_area, cursor_after}
use Rattle.grid_placement.specs.declared.field.Field.{Field}
use Rattle.grid_placement.specs.declared.field.Lines.{Lines}
use Rattle.grid_placement.specs.declared.search.Position.{Position}
use Rattle.grid_placement.specs.Near.{AllEndBy}
use Rattle.grid_placement.specs.Entries.{reach}
use Rattle.grid_placement.specs.Reached.{PositionsReached, RowsReached, line_reached, position_of, position_reached}
use Rattle.grid_placement.specs.declared.reached.Reached.{Reached}

-- the field as the rules see it
abbrev pub field_of : Field → rules.Field
field_of f = record { columns = record { start = f.first; end = f.last }; first = f.row; dense = f.dense }

-- the range of lines as the rules see it
abbrev pub span_of : Lines → Span
span_of l = record { start = l.first; end = l.last }

-- the least range that has a range and all of these
abbrev pub range_on : Span → List Span → Span
range_on base [] = base
range_on base (s ∷ rest) = with_span s (range_on base rest)

-- the columns of the area, if there is one
abbrev pub columns_in : Option Area → List Span
columns_in area = map (λ (a : Area). a.columns) (option_to_list area)

-- the rows of the area, if there is one
abbrev pub rows_in : Option Area → List Span
rows_in area = map (λ (a : Area). a.rows) (option_to_list area)

-- the range with the columns of these entries
abbrev pub columns_after : Span → List rules.Entry → Span
columns_after base [] = base
columns_after base (e ∷ rest) = columns_after (range_on (range_on base (definite_span e.wish.column)) (columns_in e.area)) rest

-- the range with the rows of these entries
abbrev pub rows_after : Span → List rules.Entry → Span
rows_after base [] = base
rows_after base (e ∷ rest) = rows_after (range_on (range_on base (definite_span e.wish.row)) (rows_in e.area)) rest

-- the columns from a line to another have room for an item that is left
abbrev pub HasRoom : ℤ → ℤ → Spot → Spot → Type 0
HasRoom first last column (At r) = Unit {0}
HasRoom first last (At c) (Free l) = first ≤ℤ c.start
HasRoom first last (Free k) (Free l) = (first +ℤ pos k) ≤ℤ last

-- the columns have room for each of these items
abbrev pub AllHaveRoom : ℤ → ℤ → List rules.Entry → Type 0
AllHaveRoom first last [] = Unit {0}
AllHaveRoom first last (e ∷ rest) = HasRoom first last e.wish.column e.wish.row × AllHaveRoom first last rest

-- between two items nothing is farther than so many items can reach, and the cursor is in the columns
pub record IsSet (held : List Area) (field : Field) (cursor : Position) : Type 0 where
  pub near : AllEndBy (reach (length held)) held
  pub first : field.first ≤ℤ reach (length held)
  pub row : field.row ≤ℤ reach (length held)
  pub after : field.first ≤ℤ cursor.column
  pub cursor_column : cursor.column ≤ℤ reach (length held)
  pub cursor_row : cursor.row ≤ℤ reach (length held)

-- the area that the next item gets
abbrev pub next_of : Field → List Area → Position → Spot → Spot → Option Area
next_of field held cursor column row = next_area (field_of field) held (position_of cursor) column row

-- the first position of the field
abbrev pub first_of : Field → Position
first_of field = record { column = field.first; row = field.row }

-- what is known in dense mode of the searches so far
pub record AreReached (field : Field) (reached : Reached) (held : List Area) : Type 0 where
  pub lines : RowsReached reached.rows field.row held
  pub positions : PositionsReached reached.positions.items (record { start = field.first; end = field.last }) (first_of field) (reach (length held)) held

-- what is known of the searches so far, in either mode
abbrev pub Knows : Bool → Field → Reached → List Area → Type 0
Knows true field reached held = AreReached field reached held
Knows false field reached held = Unit {0}

-- where the search for so many rows in these columns begins
abbrev pub row_from : Bool → Field → Position → Reached → Span → ℕ → ℤ
row_from true field cursor reached columns l = line_reached reached.rows columns l field.row
row_from false field cursor reached columns l = if int_lt columns.start cursor.column then cursor.row +ℤ pos 1 else cursor.row

-- where the search for so many columns and rows begins
abbrev pub position_from : Bool → Field → Position → Reached → ℕ → ℕ → Position
position_from true field cursor reached k l = position_reached reached.positions.items k l (first_of field)
position_from false field cursor reached k l = cursor

-- what one item does in the last step
pub record IsNextStep (field : Field) (held : List Area) (cursor : Position) (column row : Spot) (found : Option Area) (now : List Area)
    (later : Position) (reached : Reached) : Type 0 where
  pub area : found ≡ next_of field held cursor column row
  pub cells : now ≡ held ++ option_to_list (next_of field held cursor column row)
  pub cursor_is : position_of later ≡ cursor_after (position_of cursor) (next_of field held cursor column row)
  pub set : IsSet now field later
  pub knows : Knows field.dense field reached now
