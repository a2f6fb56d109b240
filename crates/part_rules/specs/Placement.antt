-- The areas of the items of a grid (CSS Grid 2, 8.5).
use Rattle.std.specs.Prelude.{◌≡◌, refl, ℕ, zero, suc, ◌+◌, max, ℤ, pos, negsuc, neg_ℤ, ◌+ℤ◌, ◌-ℤ◌, ◌≤ℤ◌, ◌<ℤ◌, ◌⊎◌, int_lt, int_le, Bool, true, false, ◌&&◌, List, [], ◌∷◌, ◌++◌, map, filter, flat_map, Option, Some, None, option_to_list, unwrap_or, if◌then◌else◌}
use Rattle.std.specs.Int.{int_max, int_min}
use Rattle.std.specs.Ordering.{int_eq}
use Rattle.lunit.specs.Areas.{areas_overlap, is_free}
use Rattle.lunit.specs.declared.geometry.Span.{Span}
use Rattle.lunit.specs.declared.geometry.Area.{Area}
use Rattle.lunit.specs.declared.geometry.Spot.{Spot}
use Rattle.lunit.specs.declared.geometry.Spot.TheVariants.{At, Free}
use Rattle.part_rules.specs.declared.wish.Wish.{Wish}
use Rattle.part_rules.specs.declared.wish.Shape.{Shape}
use Rattle.part_rules.specs.Lists.{above_zero, greatest_with}

-- ---- ranges and least places

-- the span of so many tracks from a line on
abbrev pub to_end : ℤ → ℕ → Span
to_end start k = record { start = start; end = start +ℤ pos k }

-- the least range that has both
abbrev pub with_span : Span → Span → Span
with_span a b = record { start = int_min a.start b.start; end = int_max a.end b.end }

-- the least range that has the explicit tracks, so the lines 0 to their number, and all of these
abbrev pub range_of : ℕ → List Span → Span
range_of explicit [] = record { start = pos 0; end = pos explicit }
range_of explicit (s ∷ rest) = with_span s (range_of explicit rest)

-- The least position, from this one on, whose area is free of the areas that are placed, if it is among so many; else the one after them.
abbrev pub first_free : (ℤ → Area) → List Area → ℕ → ℤ → ℤ
first_free area placed zero from = from
first_free area placed (suc more) from = if is_free (area from) placed then from else first_free area placed more (from +ℤ pos 1)

-- where all areas have ended, at or after this position
abbrev pub far_column : List Area → ℤ → ℤ
far_column placed from = greatest_with from (map (λ (a : Area). a.columns.end) placed)

-- where all areas have ended in the rows, at or after this position
abbrev pub far_row : List Area → ℤ → ℤ
far_row placed from = greatest_with from (map (λ (a : Area). a.rows.end) placed)

-- The least column from this one on where an item of so many columns in these rows is free. There is one no later than where all areas end.
abbrev pub free_column : List Area → ℕ → Span → ℤ → ℤ
free_column placed k rows from = first_free (λ c. record { columns = to_end c k; rows = rows }) placed (above_zero (far_column placed from -ℤ from)) from

-- The least row from this one on where an item of so many rows in these columns is free.
abbrev pub free_row : List Area → Span → ℕ → ℤ → ℤ
free_row placed columns l from = first_free (λ r. record { columns = columns; rows = to_end r l }) placed (above_zero (far_row placed from -ℤ from)) from

-- a position in the flow's order: by rows, then by columns
pub record Position : Type 0 where
  pub column : ℤ
  pub row : ℤ

-- The first position, in the flow's order from this one on, where an item of so many columns and rows is free and does not pass the
-- last column: in this row, or else from the first column in one of so many rows after it.
abbrev pub free_position : List Area → Span → ℕ → ℕ → ℕ → Position → Position
free_position placed columns k l zero from = from
free_position placed columns k l (suc more) from =
    let c =
    first_free (λ c. record { columns = to_end c k; rows = to_end from.row l }) placed
    (above_zero (columns.end -ℤ pos k +ℤ pos 1 -ℤ from.column)) from.column in
    if int_le (c +ℤ pos k) columns.end
    then record { column = c; row = from.row }
    else free_position placed columns k l more (record { column = columns.start; row = from.row +ℤ pos 1 })

-- the rows to look at: this one, and those up to where all areas end
abbrev pub rows_to_search : List Area → ℤ → ℕ
rows_to_search placed row = above_zero (far_row placed row -ℤ row) + 1

-- ---- flow `row` (CSS Grid 2, 8.5)

-- an item with its area once it is placed
pub record Entry : Type 0 where
  pub wish : Wish
  pub area : Option Area

-- an item with both axes definite has its area (CSS Grid 2, 8.5, step 1)
abbrev pub fixed_area : Spot → Spot → Option Area
fixed_area (At c) (At r) = Some (record { columns = c; rows = r })
fixed_area column row = None

-- an item as placement begins (CSS Grid 2, 8.5, step 1)
abbrev pub begun : Wish → Entry
begun w = record { wish = w; area = fixed_area w.column w.row }

-- the areas of those that are placed
abbrev pub areas_of : List Entry → List Area
areas_of entries = flat_map (λ (e : Entry). option_to_list e.area) entries

-- the entry with this area, if there is one
abbrev pub with_area : Entry → Option Area → Entry
with_area e None = e
with_area e (Some a) = record e { area = Some a }

-- where the search in a definite row begins: in dense mode at column 0 (own rule: it could also be the first column of the grid); in sparse
-- mode also not before the end of an item that this step placed with the same row start (own rule: it could also be an item that shares a row)
abbrev pub row_search_start : Bool → List Area → Span → ℤ
row_search_start dense mine rows =
    if dense then pos 0 else greatest_with (pos 0)
    (map (λ (a : Area). a.columns.end) (filter (λ (a : Area). int_eq a.rows.start rows.start) mine))

-- the area of an item with a definite row (CSS Grid 2, 8.5, step 2)
abbrev pub row_area : Bool → List Area → List Area → Spot → Spot → Option Area
row_area dense placed mine (Free k) (At rows) = Some (record { columns = to_end (free_column placed k rows (row_search_start dense mine rows)) k; rows = rows })
row_area dense placed mine column row = None

-- Items with a definite row, in their order: `placed` are all areas so far, and `mine` those of this step.
abbrev pub rows_placed : Bool → List Area → List Area → List Entry → List Entry
rows_placed dense placed mine [] = []
rows_placed dense placed mine (e ∷ rest) =
    let area = row_area dense placed mine e.wish.column e.wish.row in
    let new = option_to_list area in
    with_area e area ∷ rows_placed dense (placed ++ new) (mine ++ new) rest

-- the lines of a definite place
abbrev pub definite_span : Spot → List Span
definite_span (At s) = s ∷ []
definite_span (Free k) = []

-- the span of a free place, and 0 for a definite one
abbrev pub free_length : Spot → ℕ
free_length (At s) = 0
free_length (Free k) = k

-- the column span of an item that is not placed yet
abbrev pub waiting_in : Option Area → Spot → ℕ
waiting_in None column = free_length column
waiting_in (Some a) column = 0

-- the greatest column span of the items that are not placed yet
abbrev pub greatest_waiting : List Entry → ℕ
greatest_waiting [] = 0
greatest_waiting (e ∷ rest) = max (waiting_in e.area e.wish.column) (greatest_waiting rest)

-- The columns (CSS Grid 2, 8.5, step 3): the least range that has the explicit ones, all definite column spans and all areas so far; where it
-- is narrower than an item that is left, its end grows to fit.
abbrev pub columns_for : ℕ → List Entry → Span
columns_for explicit entries =
    let spans = flat_map (λ (e : Entry). definite_span e.wish.column) entries ++ map (λ (a : Area). a.columns) (areas_of entries) in
    let range = range_of explicit spans in
    record { start = range.start; end = int_max range.end (range.start +ℤ pos (greatest_waiting entries)) }

-- the first of the rows so far
abbrev pub first_row : ℕ → List Entry → ℤ
first_row explicit entries =
    (range_of explicit (flat_map (λ (e : Entry). definite_span e.wish.row) entries ++ map (λ (a : Area). a.rows) (areas_of entries))).start

-- where the items that are left are placed: in these columns, in the rows from the first on, and in dense mode or not
pub record Field : Type 0 where
  pub columns : Span
  pub first : ℤ
  pub dense : Bool

-- The row at which the search for an item with a definite column begins: in dense mode the first one; in sparse mode the cursor's,
-- or the next where the column goes back.
abbrev pub column_search_start : Field → Position → Span → ℤ
column_search_start f cursor columns = if f.dense then f.first else if int_lt columns.start cursor.column then cursor.row +ℤ pos 1 else cursor.row

-- The position at which the search for an item that is free in both axes begins: in dense mode the first one; in sparse mode the cursor.
abbrev pub free_search_start : Field → Position → Position
free_search_start f cursor = if f.dense then record { column = f.columns.start; row = f.first } else cursor

-- the area of so many columns and rows from a position on
abbrev pub area_at : Position → ℕ → ℕ → Area
area_at p k l = record { columns = to_end p.column k; rows = to_end p.row l }

-- the area of an item that is left (CSS Grid 2, 8.5, step 4)
abbrev pub next_area : Field → List Area → Position → Spot → Spot → Option Area
next_area f placed cursor (At columns) (Free l) =
    Some (record { columns = columns; rows = to_end (free_row placed columns l (column_search_start f cursor columns)) l })
next_area f placed cursor (Free k) (Free l) =
    let from = free_search_start f cursor in
    Some (area_at (free_position placed f.columns k l (rows_to_search placed from.row) from) k l)
next_area f placed cursor column row = None

-- the cursor stays at the place found
abbrev pub cursor_after : Position → Option Area → Position
cursor_after cursor None = cursor
cursor_after cursor (Some a) = record { column = a.columns.start; row = a.rows.start }

-- The items that are left, in their order.
abbrev pub rest_placed : Field → List Area → Position → List Entry → List Entry
rest_placed f placed cursor [] = []
rest_placed f placed cursor (e ∷ rest) =
    let area = next_area f placed cursor e.wish.column e.wish.row in
    let new = option_to_list area in
    let next = cursor_after cursor area in
    with_area e area ∷ rest_placed f (placed ++ new) next rest

-- no area; every item has one in the end
abbrev pub no_area : Area
no_area = record { columns = record { start = pos 0; end = pos 0 }; rows = record { start = pos 0; end = pos 0 } }

-- The areas of items in flow `row`, with so many explicit columns and rows, before they are cut to the limit.
unfoldable pub placed_by_rows : ℕ → ℕ → Bool → List Wish → List Area
placed_by_rows columns rows dense items =
    let both = map begun items in
    let with_rows = rows_placed dense (areas_of both) [] both in
    let field : Field = record { columns = columns_for columns with_rows; first = first_row rows with_rows; dense = dense } in
    let start : Position = record { column = field.columns.start; row = field.first } in
    map (λ (e : Entry). unwrap_or e.area no_area) (rest_placed field (areas_of with_rows) start with_rows)

-- ---- both flows

-- with the axes exchanged
abbrev pub turned_wish : Wish → Wish
turned_wish w = record { column = w.row; row = w.column }

-- with the axes exchanged
abbrev pub turned_area : Area → Area
turned_area a = record { columns = a.rows; rows = a.columns }

-- The areas of the items of a grid, in order-modified document order, before they are cut to the limit: the search has none,
-- also in a subgridded axis (it could also end at the limit). Flow `column` is flow `row` with the axes exchanged.
abbrev pub placed : List Wish → Shape → List Area
placed items shape =
    if shape.column_flow
    then map turned_area (placed_by_rows shape.rows shape.columns shape.dense (map turned_wish items))
    else placed_by_rows shape.columns shape.rows shape.dense items

-- where there is an area, it overlaps none of these
abbrev pub IsFreeOf : List Area → Option Area → Type 0
IsFreeOf placed None = Unit {0}
IsFreeOf placed (Some a) = is_free a placed ≡ true

-- A position in the flow's order, from where a search begins up to before the place that was found, where an item of so many
-- columns does not pass these columns.
pub record IsEarlier (columns : Span) (k : ℕ) (from found q : Position) : Type 0 where
  pub starts : columns.start ≤ℤ q.column
  pub ends : (q.column +ℤ pos k) ≤ℤ columns.end
  pub reached : (from.row <ℤ q.row) ⊎ ((from.row ≡ q.row) × (from.column ≤ℤ q.column))
  pub passed : (q.row <ℤ found.row) ⊎ ((q.row ≡ found.row) × (q.column <ℤ found.column))

-- a position whose area of so many columns is within the columns
pub record IsInside (columns : Span) (k : ℕ) (found : Position) : Type 0 where
  pub starts : columns.start ≤ℤ found.column
  pub ends : (found.column +ℤ pos k) ≤ℤ columns.end

-- no position before the one found was free
abbrev pub IsLeast : List Area → Span → ℕ → ℕ → Position → Position → Type 0
IsLeast held columns k l from found = (q : Position) → IsEarlier columns k from found q → is_free (area_at q k l) held ≡ false

-- whether a place is definite
abbrev pub is_at : Spot → Bool
is_at (At s) = true
is_at (Free k) = false

-- an item that is definite in both axes
abbrev pub is_definite : Wish → Bool
is_definite w = is_at w.column && is_at w.row

-- two items overlap only where both are definite in both axes
abbrev pub MayMeet : Wish → Area → Wish → Area → Type 0
MayMeet v a w b = areas_overlap a b ≡ true → (is_definite v && is_definite w) ≡ true

-- this item and each of the others
abbrev pub EachApart : Wish → Area → List Wish → List Area → Type 0
EachApart v a [] bs = Unit {0}
EachApart v a (w ∷ ws) [] = ⊥
EachApart v a (w ∷ ws) (b ∷ bs) = MayMeet v a w b × EachApart v a ws bs

-- each two items: the area of one that is not definite in both axes overlaps no other
abbrev pub NoOverlap : List Wish → List Area → Type 0
NoOverlap [] bs = Unit {0}
NoOverlap (v ∷ vs) [] = ⊥
NoOverlap (v ∷ vs) (a ∷ bs) = EachApart v a vs bs × NoOverlap vs bs

-- ---- worked rows

abbrev free : ℕ → ℕ → Wish
free k l = record { column = Free k; row = Free l }

abbrev in_column : ℤ → ℤ → ℕ → Wish
in_column start end l = record { column = At (record { start = start; end = end }); row = Free l }

abbrev in_row : ℕ → ℤ → ℤ → Wish
in_row k start end = record { column = Free k; row = At (record { start = start; end = end }) }

abbrev at : ℤ → ℤ → ℤ → ℤ → Wish
at a b c d = record { column = At (record { start = a; end = b }); row = At (record { start = c; end = d }) }

abbrev cells : ℤ → ℤ → ℤ → ℤ → Area
cells a b c d = record { columns = record { start = a; end = b }; rows = record { start = c; end = d } }

abbrev sparse : ℕ → ℕ → Shape
sparse columns rows = record { columns = columns; column_flow = false; dense = false; rows = rows }

abbrev dense : ℕ → ℕ → Shape
dense columns rows = record { columns = columns; column_flow = false; dense = true; rows = rows }

-- Three columns; spans of 2, 2 and 1. The second does not fit beside the first, and in sparse mode the third follows it.
third_follows : placed (free 2 1 ∷ free 2 1 ∷ free 1 1 ∷ []) (sparse 3 0) ≡
    cells (pos 0) (pos 2) (pos 0) (pos 1) ∷ cells (pos 0) (pos 2) (pos 1) (pos 2) ∷ cells (pos 2) (pos 3) (pos 1) (pos 2) ∷ []
unfolding placed_by_rows
third_follows = refl

-- In dense mode it fills the hole beside the first.
third_fills : placed (free 2 1 ∷ free 2 1 ∷ free 1 1 ∷ []) (dense 3 0) ≡
    cells (pos 0) (pos 2) (pos 0) (pos 1) ∷ cells (pos 0) (pos 2) (pos 1) (pos 2) ∷ cells (pos 2) (pos 3) (pos 0) (pos 1) ∷ []
unfolding placed_by_rows
third_fills = refl

-- Columns 0 to 2, 1 to 2, a free span of 2, and 2 to 3, of two explicit ones. The second is free in row 1; the third begins at column 1
-- there, is free at 2, which passes the last column 3, and so stands in row 2; there the fourth follows.
mixed : placed (in_column (pos 0) (pos 2) 1 ∷ in_column (pos 1) (pos 2) 1 ∷ free 2 1 ∷ in_column (pos 2) (pos 3) 1 ∷ []) (sparse 2 0)
    ≡ cells (pos 0) (pos 2) (pos 0) (pos 1) ∷ cells (pos 1) (pos 2) (pos 1) (pos 2) ∷ cells (pos 0) (pos 2) (pos 2) (pos 3) ∷
    cells (pos 2) (pos 3) (pos 2) (pos 3) ∷ []
unfolding placed_by_rows
mixed = refl

-- Column 1 and then column 0: the column goes back, so the second stands in the next row; in dense mode in the first.
goes_back : placed (in_column (pos 1) (pos 2) 1 ∷ in_column (pos 0) (pos 1) 1 ∷ []) (sparse 2 0) ≡
    cells (pos 1) (pos 2) (pos 0) (pos 1) ∷ cells (pos 0) (pos 1) (pos 1) (pos 2) ∷ []
unfolding placed_by_rows
goes_back = refl

goes_back_dense : placed (in_column (pos 1) (pos 2) 1 ∷ in_column (pos 0) (pos 1) 1 ∷ []) (dense 2 0) ≡
    cells (pos 1) (pos 2) (pos 0) (pos 1) ∷ cells (pos 0) (pos 1) (pos 0) (pos 1) ∷ []
unfolding placed_by_rows
goes_back_dense = refl

-- Cell 1 of row 0 is taken, so a span of 2 in that row stands at 2. In sparse mode the next one stands after it, at 4; in dense mode at 0.
row_sparse : placed (in_row 2 (pos 0) (pos 1) ∷ in_row 1 (pos 0) (pos 1) ∷ at (pos 1) (pos 2) (pos 0) (pos 1) ∷ []) (sparse 0 0)
    ≡ cells (pos 2) (pos 4) (pos 0) (pos 1) ∷ cells (pos 4) (pos 5) (pos 0) (pos 1) ∷ cells (pos 1) (pos 2) (pos 0) (pos 1) ∷ []
unfolding placed_by_rows
row_sparse = refl

row_dense : placed (in_row 2 (pos 0) (pos 1) ∷ in_row 1 (pos 0) (pos 1) ∷ at (pos 1) (pos 2) (pos 0) (pos 1) ∷ []) (dense 0 0)
    ≡ cells (pos 2) (pos 4) (pos 0) (pos 1) ∷ cells (pos 0) (pos 1) (pos 0) (pos 1) ∷ cells (pos 1) (pos 2) (pos 0) (pos 1) ∷ []
unfolding placed_by_rows
row_dense = refl

-- Rows 0 to 2 and then 1 to 2 have not the same start: the second is searched from column 0 on, where the first stands in its way.
other_start : placed (in_row 1 (pos 0) (pos 2) ∷ in_row 1 (pos 1) (pos 2) ∷ []) (sparse 0 0) ≡
    cells (pos 0) (pos 1) (pos 0) (pos 2) ∷ cells (pos 1) (pos 2) (pos 1) (pos 2) ∷ []
unfolding placed_by_rows
other_start = refl

-- Without explicit columns the greatest span of 2 makes two columns.
grown_columns : placed (free 1 1 ∷ free 1 1 ∷ free 2 1 ∷ []) (sparse 0 0) ≡
    cells (pos 0) (pos 1) (pos 0) (pos 1) ∷ cells (pos 1) (pos 2) (pos 0) (pos 1) ∷ cells (pos 0) (pos 2) (pos 1) (pos 2) ∷ []
unfolding placed_by_rows
grown_columns = refl

-- A column before the explicit ones: the columns begin at -2, and so does the cursor.
before_first : placed (in_column (neg_ℤ (pos 2)) (neg_ℤ (pos 1)) 1 ∷ free 1 1 ∷ []) (sparse 1 1) ≡
    cells (neg_ℤ (pos 2)) (neg_ℤ (pos 1)) (pos 0) (pos 1) ∷ cells (neg_ℤ (pos 1)) (pos 0) (pos 0) (pos 1) ∷ []
unfolding placed_by_rows
before_first = refl

-- A definite area in row -1: the rows begin there, and so does the cursor.
before_first_row : placed (at (pos 0) (pos 1) (negsuc 0) (pos 0) ∷ free 1 1 ∷ []) (sparse 2 0) ≡
    cells (pos 0) (pos 1) (negsuc 0) (pos 0) ∷ cells (pos 1) (pos 2) (negsuc 0) (pos 0) ∷ []
unfolding placed_by_rows
before_first_row = refl

-- Flow `column` with two explicit rows: down first.
down_first : placed (free 1 1 ∷ free 1 1 ∷ free 1 1 ∷ []) (record { columns = 0; column_flow = true; dense = false; rows = 2 }) ≡
    cells (pos 0) (pos 1) (pos 0) (pos 1) ∷ cells (pos 0) (pos 1) (pos 1) (pos 2) ∷ cells (pos 1) (pos 2) (pos 0) (pos 1) ∷ []
unfolding placed_by_rows
down_first = refl

-- Two definite areas may overlap.
both_definite : placed (at (pos 0) (pos 2) (pos 0) (pos 2) ∷ at (pos 1) (pos 3) (pos 1) (pos 3) ∷ []) (sparse 0 0) ≡
    cells (pos 0) (pos 2) (pos 0) (pos 2) ∷ cells (pos 1) (pos 3) (pos 1) (pos 3) ∷ []
unfolding placed_by_rows
both_definite = refl

no_items : placed [] (sparse 3 3) ≡ []
unfolding placed_by_rows
no_items = refl
