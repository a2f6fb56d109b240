-- The strings of `grid-template-areas` (CSS Grid 2, 7.3). Words know no quotes: a string begins with a word that begins
-- with a quote, and ends with one that ends so.
use Rattle.std.specs.Prelude.{ℕ, pos, ◌+ℤ◌, ◌+◌, ◌-◌, ◌*◌, ◌==◌, min, max, nat_lt, Bool, true, false, not, ◌&&◌, ◌||◌, List, [], ◌∷◌, map, if◌then◌else◌, Option, Some, None, codes}
use Rattle.std.specs.Option.{option_map}
use Rattle.std.specs.Str.{bytes_eq}
use Rattle.std.specs.List.{list_all}
use Rattle.lunit.specs.declared.geometry.Area.{Area}
use Rattle.lunit.specs.declared.geometry.Span.{Span}
use Rattle.style_types.specs.declared.value.Areas.{Areas}
use Rattle.track_text.specs.Words.{Word, bind, is_alone}
use Rattle.track_text.specs.Values.{ends_in, before}
use Rattle.track_text.specs.NameSets.{is_line_name}
use Rattle.value_text.specs.declared.found.Found.{Found}
use Rattle.value_text.specs.declared.area.Reading.{Reading}

-- the text of a word in a string, and whether the string ends there
abbrev pub quote : Word
quote = 34 ∷ []

abbrev pub piece_of : Word → Word × Bool
piece_of text = if ends_in quote text then (before quote text, true) else (text, false)

abbrev pub opened : Word → Option Word
opened [] = None
opened (byte ∷ text) = if byte == 34 then Some text else None

-- a word outside of strings has to begin one
abbrev pub piece : Bool → Word → Option (Word × Bool)
piece true word = Some (piece_of word)
piece false word = option_map piece_of (opened word)

-- ---- cells

abbrev pub is_points : Word → Bool
is_points word = list_all (λ byte. byte == 46) word

-- the cells of a name: the first and the last row and column of them, from 0, and how many there are
abbrev pub new_found : Word → ℕ → ℕ → Found
new_found name row column = record { name = name; top = row; bottom = row; left = column; right = column; cells = 1 }

abbrev pub with_cell : Found → ℕ → ℕ → Found
with_cell f row column = record { name = f.name; top = f.top; bottom = row; left = min f.left column; right = max f.right column; cells = f.cells + 1 }

-- the cell joins those of its name, or is the first of them
abbrev pub add_cell : List Found → Word → ℕ → ℕ → List Found
add_cell [] name row column = new_found name row column ∷ []
add_cell (f ∷ found) name row column = if bytes_eq f.name name then with_cell f row column ∷ found else f ∷ add_cell found name row column

-- the cells of the name fill the rectangle between the first and the last
abbrev pub is_filled : Found → Bool
is_filled f = f.cells == (f.bottom + 1 - f.top) * (f.right + 1 - f.left)

-- ---- strings, read word by word

abbrev pub start : Reading
start = record { within = false; column = 0; columns = 0; rows = 0; found = [] }

-- the string goes on, with so many cells and these names
abbrev pub going_on : Reading → ℕ → List Found → Reading
going_on r column found = record { within = true; column = column; columns = r.columns; rows = r.rows; found = found }

-- a cell: a run of points, or a name; no cell where the text is empty
abbrev pub cell : Reading → Word → Option Reading
cell r [] = Some (going_on r r.column r.found)
cell r (byte ∷ text) =
    if is_points (byte ∷ text) then Some (going_on r (r.column + 1) r.found)
    else if is_line_name (byte ∷ text) then Some (going_on r (r.column + 1) (add_cell r.found (byte ∷ text) r.rows r.column))
    else None

abbrev pub next_row : Reading → ℕ → Reading
next_row r columns = record { within = false; column = 0; columns = columns; rows = r.rows + 1; found = r.found }

-- the string ends: it has as many cells as the first one
abbrev pub close : Reading → Option Reading
close r = if r.rows == 0 || r.column == r.columns then Some (next_row r r.column) else None

abbrev pub close_if : Bool → Reading → Option Reading
close_if true r = close r
close_if false r = Some r

abbrev pub step : Reading → Word → Option Reading
step r word = bind (piece r.within word) (λ p. bind (cell r p.0) (close_if p.1))

abbrev pub steps : Reading → List Word → Option Reading
steps r [] = Some r
steps r (word ∷ words) = bind (step r word) (λ next. steps next words)

-- ---- areas

-- the lines before the first and after the last row or column
abbrev pub span_of : ℕ → ℕ → Span
span_of first last = record { start = pos first; end = pos last +ℤ pos 1 }

abbrev pub area_of : Found → Word × Area
area_of f = (f.name, record { columns = span_of f.left f.right; rows = span_of f.top f.bottom })

abbrev pub areas : Reading → Areas
areas r = record { columns = r.columns; rows = r.rows; named = map area_of r.found }

-- one string at least, none left open, and each name fills its rectangle
abbrev pub is_whole : Reading → Bool
is_whole r = not r.within && (nat_lt 0 r.rows && list_all is_filled r.found)

abbrev pub finish : Reading → Option Areas
finish r = if is_whole r then Some (areas r) else None

abbrev pub strings_of : List Word → Option Areas
strings_of words = bind (steps start words) finish

-- `none`, or the areas of strings
abbrev pub areas_of : List Word → Option (Option Areas)
areas_of words = if is_alone (codes "none") words then Some None else option_map Some (strings_of words)
