-- The named areas that words read as are in range: each stands in the cells.
use Rattle.std.proofs.Common.{◌≡◌, refl, sym, ◌∙◌, arith, true≢false, ℕ, suc, ◌+◌, ◌≤◌, ◌<◌, max, pos, ◌+ℤ◌, int_le, int_lt, ◌==◌, Bool, true, false, not, ◌&&◌, ◌||◌, List, [], ◌∷◌, map, length, Some, None, if◌then◌else◌}
use Rattle.std.specs.Prelude.{IfSome, codes, nat_le, nat_lt}
use Rattle.std.specs.List.{list_all}
use Rattle.std.specs.Option.{option_map}
use Rattle.std.specs.Str.{bytes_eq}
use Rattle.std.proofs.lemmas.Bool.{eqb-true}
use Rattle.std.proofs.lemmas.Int.{ints}
use Rattle.lunit.specs.declared.geometry.Area.{Area}
use Rattle.line_names.specs.Tables.{is_area}
use Rattle.track_text.specs.Words.{Word, bind, is_alone}
use Rattle.track_text.specs.NameSets.{is_line_name}
use Rattle.value_text.specs.declared.found.Found.{Found}
use Rattle.value_text.specs.AreaText.{piece, is_points, with_cell, add_cell, is_filled, start, going_on, cell, next_row, close, close_if, step, steps, span_of, area_of, areas, is_whole, finish, strings_of, areas_of}
use Rattle.placing.specs.Ranges.{AreAreas, AreCells}
use Rattle.page_tree.proofs.ToldOptions.{some_if, some_where, some_map, some_bind, some_weaker, some_any, Each, both_true, and_true, not_true}
use Rattle.page_tree.proofs.ToldLines.{IsShortName, line_name_short}

-- what a reader of areas has so far: a type that the reader keeps to itself
abbrev type_of : {A : Type 0} → A → Type 0
type_of {A} a = A

abbrev Reading : Type 0
Reading = type_of start

-- ---- names with their cells

-- a name whose cells stand before this row and this column
record IsFound (rows columns : ℕ) (f : Found) : Type 0 where
  pub name : IsShortName f.name
  pub down : f.top ≤ f.bottom
  pub across : f.left ≤ f.right
  pub bottom : f.bottom < rows
  pub right : f.right < columns

wider : (a b c d : ℕ) (found : List Found) → a ≤ c → b ≤ d → Each (IsFound a b) found → Each (IsFound c d) found
wider a b c d [] h k e = tt
wider a b c d (f ∷ found) h k e =
    let one : IsFound a b f = e.0 in
    (record { name = one.name; down = one.down; across = one.across; bottom = omega (arith, h, one.bottom); right = omega (arith, k, one.right) }, wider a b c d found h k e.1)

cell_in : (f : Found) (row column columns : ℕ) → column < columns → IsFound (suc row) columns f → IsFound (suc row) columns (with_cell f row column)
cell_in f row column columns c h = record {
  name = h.name;
  down = omega (arith, h.down, h.bottom);
  across = omega (arith, h.across);
  bottom = omega arith;
  right = omega (arith, c, h.right);
}

added_in : (found : List Found) (name : Word) (row column columns : ℕ) → IsShortName name → column < columns → Each (IsFound (suc row) columns) found → Each (IsFound (suc row) columns) (add_cell found name row column)
added_in [] name row column columns s c h = (record { name = s; down = omega arith; across = omega arith; bottom = omega arith; right = c }, tt)
added_in (f ∷ found) name row column columns s c h = by_name (bytes_eq f.name name) (added_in found name row column columns s c h.1)
  where
    by_name : (b : Bool) → Each (IsFound (suc row) columns) (add_cell found name row column)
        → Each (IsFound (suc row) columns) (if b then with_cell f row column ∷ found else f ∷ add_cell found name row column)
    by_name true more = (cell_in f row column columns c h.0, h.1)
    by_name false more = (h.0, more)

-- ---- strings

-- what is read of so many words
record IsReadTo (k : ℕ) (r : Reading) : Type 0 where
  pub column : r.column ≤ k
  pub columns : r.columns ≤ k
  pub rows : r.rows ≤ k
  pub first : r.rows ≡ 0 → r.columns ≡ 0
  pub inside : r.within ≡ true → Each (IsFound (suc r.rows) (max r.column r.columns)) r.found
  pub outside : r.within ≡ false → (r.column ≡ 0) × Each (IsFound r.rows r.columns) r.found

longer : (k n : ℕ) (r : Reading) → k ≤ n → IsReadTo k r → IsReadTo n r
longer k n r h t = record {
  column = omega (arith, h, t.column);
  columns = omega (arith, h, t.columns);
  rows = omega (arith, h, t.rows);
  first = t.first;
  inside = t.inside;
  outside = t.outside;
}

-- what is read of so many words, in a string
record IsWithin (k : ℕ) (r : Reading) : Type 0 where
  pub within : r.within ≡ true
  pub column : r.column ≤ suc k
  pub columns : r.columns ≤ k
  pub rows : r.rows ≤ k
  pub first : r.rows ≡ 0 → r.columns ≡ 0
  pub found : Each (IsFound (suc r.rows) (max r.column r.columns)) r.found

found_in : (k : ℕ) (r : Reading) → IsReadTo k r → Each (IsFound (suc r.rows) (max r.column r.columns)) r.found
found_in k r t = by_within r.within refl
  where
    by_within : (b : Bool) → r.within ≡ b → Each (IsFound (suc r.rows) (max r.column r.columns)) r.found
    by_within true e = t.inside e
    by_within false e = wider r.rows r.columns (suc r.rows) (max r.column r.columns) r.found (omega arith) (omega arith) (t.outside e).1

on_in : (k : ℕ) (r : Reading) (column : ℕ) (found : List Found) → IsReadTo k r → column ≤ suc k → Each (IsFound (suc r.rows) (max column r.columns)) found → IsWithin k (going_on r column found)
on_in k r column found t c h = record { within = refl; column = c; columns = t.columns; rows = t.rows; first = t.first; found = h }

cells_in : (k : ℕ) (r : Reading) (text : Word) → IsReadTo k r → IfSome (cell r text) (IsWithin k)
cells_in k r [] t = on_in k r r.column r.found t (let c : r.column ≤ k = t.column in omega (arith, c)) (found_in k r t)
cells_in k r (byte ∷ text) t =
    some_if (IsWithin k) (is_points (byte ∷ text)) (Some (going_on r (r.column + 1) r.found)) (if is_line_name (byte ∷ text) then Some (going_on r (r.column + 1) (add_cell r.found (byte ∷ text) r.rows r.column)) else None)
    (on_in k r (r.column + 1) r.found t one more)
    (some_where (IsWithin k) (is_line_name (byte ∷ text)) (Some (going_on r (r.column + 1) (add_cell r.found (byte ∷ text) r.rows r.column)))
    (λ h. on_in k r (r.column + 1) (add_cell r.found (byte ∷ text) r.rows r.column) t one
    (added_in r.found (byte ∷ text) r.rows r.column (max (r.column + 1) r.columns) (line_name_short (byte ∷ text) h) (omega arith) more)))
  where
    one : r.column + 1 ≤ suc k
    one = let c : r.column ≤ k = t.column in omega (arith, c)

    more : Each (IsFound (suc r.rows) (max (r.column + 1) r.columns)) r.found
    more = wider (suc r.rows) (max r.column r.columns) (suc r.rows) (max (r.column + 1) r.columns) r.found (omega arith) (omega arith) (found_in k r t)

row_in : (k : ℕ) (r : Reading) → IsWithin k r → max r.column r.columns ≤ r.column → IsReadTo (suc k) (next_row r r.column)
row_in k r w h = record {
  column = omega arith;
  columns = w.column;
  rows = (let rows : r.rows ≤ k = w.rows in omega (arith, rows));
  first = λ e. absurd (omega (arith, e));
  inside = λ e. absurd (true≢false (sym e));
  outside = λ e. (refl, wider (suc r.rows) (max r.column r.columns) (r.rows + 1) r.column r.found (omega arith) h w.found);
}

close_in : (k : ℕ) (r : Reading) → IsWithin k r → IfSome (close r) (IsReadTo (suc k))
close_in k r w = by_tests (r.rows == 0) (r.column == r.columns) refl refl
  where
    by_tests : (a b : Bool) → (r.rows == 0) ≡ a → (r.column == r.columns) ≡ b → IfSome (if a || b then Some (next_row r r.column) else None) (IsReadTo (suc k))
    by_tests true b e f = row_in k r w (let none : r.columns ≡ 0 = w.first (eqb-true r.rows 0 e) in omega (arith, none))
    by_tests false true e f = row_in k r w (let same : r.column ≡ r.columns = eqb-true r.column r.columns f in omega (arith, same))
    by_tests false false e f = tt

close_if_in : (k : ℕ) (b : Bool) (r : Reading) → IsWithin k r → IfSome (close_if b r) (IsReadTo (suc k))
close_if_in k true r w = close_in k r w
close_if_in k false r w = record {
  column = w.column;
  columns = (let columns : r.columns ≤ k = w.columns in omega (arith, columns));
  rows = (let rows : r.rows ≤ k = w.rows in omega (arith, rows));
  first = w.first;
  inside = λ e. w.found;
  outside = λ e. absurd (true≢false (sym w.within ∙ e));
}

step_in : (k : ℕ) (r : Reading) (word : Word) → IsReadTo k r → IfSome (step r word) (IsReadTo (suc k))
step_in k r word t =
    some_bind (IsReadTo (suc k)) (piece r.within word) (λ p. bind (cell r p.0) (close_if p.1))
    (some_any (λ p. IfSome (bind (cell r p.0) (close_if p.1)) (IsReadTo (suc k))) (piece r.within word) (λ p.
    some_bind (IsReadTo (suc k)) (cell r p.0) (close_if p.1)
    (some_weaker (IsWithin k) (λ s. IfSome (close_if p.1 s) (IsReadTo (suc k))) (cell r p.0) (λ s w. close_if_in k p.1 s w) (cells_in k r p.0 t))))

steps_in : (n k : ℕ) (r : Reading) (words : List Word) → k + length words ≤ n → IsReadTo k r → IfSome (steps r words) (IsReadTo n)
steps_in n k r [] h t = longer k n r (omega (arith, h)) t
steps_in n k r (word ∷ words) h t =
    some_bind (IsReadTo n) (step r word) (λ next. steps next words)
    (some_weaker (IsReadTo (suc k)) (λ next. IfSome (steps next words) (IsReadTo n)) (step r word) (λ next s. steps_in n (suc k) next words (omega (arith, h)) s) (step_in k r word t))

start_in : IsReadTo 0 start
start_in = record { column = omega arith; columns = omega arith; rows = omega arith; first = λ _. refl; inside = λ e. absurd (true≢false (sym e)); outside = λ e. (refl, tt) }

-- ---- areas

span_is : (first last n : ℕ) → first ≤ last → last < n → (int_le (pos 0) (pos first) && (int_lt (pos first) (pos last +ℤ pos 1) && int_le (pos last +ℤ pos 1) (pos n))) ≡ true
span_is first last n h k = by_tests (int_le (pos 0) (pos first)) (int_lt (pos first) (pos last +ℤ pos 1)) (int_le (pos last +ℤ pos 1) (pos n)) refl refl refl
  where
    by_tests : (a b c : Bool) → int_le (pos 0) (pos first) ≡ a → int_lt (pos first) (pos last +ℤ pos 1) ≡ b → int_le (pos last +ℤ pos 1) (pos n) ≡ c → (a && (b && c)) ≡ true
    by_tests true true true e f g = refl
    by_tests false b c e f g = absurd (omega (arith, ints, e))
    by_tests true false c e f g = absurd (omega (arith, ints, f, h))
    by_tests true true false e f g = absurd (omega (arith, ints, g, k))

columns_are : (rows columns : ℕ) (found : List Found) → Each (IsFound rows columns) found → list_all (is_area columns) (map (λ (n : List ℕ × Area). (n.0, n.1.columns)) (map area_of found)) ≡ true
columns_are rows columns [] h = refl
columns_are rows columns (f ∷ found) h =
    let one : IsFound rows columns f = h.0 in
    and_true (is_area columns (f.name, span_of f.left f.right)) (list_all (is_area columns) (map (λ (n : List ℕ × Area). (n.0, n.1.columns)) (map area_of found)))
    (and_true (nat_le (length f.name) 58) (int_le (pos 0) (pos f.left) && (int_lt (pos f.left) (pos f.right +ℤ pos 1) && int_le (pos f.right +ℤ pos 1) (pos columns))) one.name (span_is f.left f.right columns one.across one.right))
    (columns_are rows columns found h.1)

rows_are : (rows columns : ℕ) (found : List Found) → Each (IsFound rows columns) found → list_all (is_area rows) (map (λ (n : List ℕ × Area). (n.0, n.1.rows)) (map area_of found)) ≡ true
rows_are rows columns [] h = refl
rows_are rows columns (f ∷ found) h =
    let one : IsFound rows columns f = h.0 in
    and_true (is_area rows (f.name, span_of f.top f.bottom)) (list_all (is_area rows) (map (λ (n : List ℕ × Area). (n.0, n.1.rows)) (map area_of found)))
    (and_true (nat_le (length f.name) 58) (int_le (pos 0) (pos f.top) && (int_lt (pos f.top) (pos f.bottom +ℤ pos 1) && int_le (pos f.bottom +ℤ pos 1) (pos rows))) one.name (span_is f.top f.bottom rows one.down one.bottom))
    (rows_are rows columns found h.1)

finish_in : (r : Reading) → IsReadTo 65536 r → IfSome (finish r) AreCells
finish_in r t = some_where AreCells (is_whole r) (Some (areas r)) (λ h.
    let ended : r.within ≡ false = not_true r.within (both_true (not r.within) (nat_lt 0 r.rows && list_all is_filled r.found) h).0 in
    let found : Each (IsFound r.rows r.columns) r.found = (t.outside ended).1 in
    record { columns = t.columns; rows = t.rows; in_columns = columns_are r.rows r.columns r.found found; in_rows = rows_are r.rows r.columns r.found found })

strings_in : (words : List Word) → length words ≤ 65536 → IfSome (strings_of words) AreCells
strings_in words h =
    some_bind AreCells (steps start words) finish
    (some_weaker (IsReadTo 65536) (λ r. IfSome (finish r) AreCells) (steps start words) finish_in (steps_in 65536 0 start words (omega (arith, h)) start_in))

pub areas_read : (words : List Word) → length words ≤ 65536 → IfSome (areas_of words) AreAreas
areas_read words h = some_if AreAreas (is_alone (codes "none") words) (Some None) (option_map Some (strings_of words)) tt (some_map AreAreas Some (strings_of words) (strings_in words h))
