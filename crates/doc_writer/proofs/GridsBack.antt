-- The cells of the strings of areas: what is read of them.
use Rattle.std.proofs.Common.{◌≡◌, ℕ, suc, ◌+◌, Bool, true, false, ◌||◌, ◌==◌, List, [], ◌∷◌, ◌++◌, length, refl, ap, sym, subst, ◌∙◌, arith, if◌then◌else◌, Option, Some, None, inl, inr, ◌⊎◌}
use Rattle.std.specs.Prelude.{⊤}
use Rattle.std.proofs.lemmas.Bool.{true≢false, eqb-true, or_cases}
use Rattle.std.proofs.lemmas.List.{append_assoc, append-nil, length_push}
use Rattle.track_text.specs.Words.{Word, bind}
use Rattle.track_text.specs.NameSets.{is_line_name}
use Rattle.value_text.specs.declared.found.Found.{Found}
use Rattle.value_text.specs.AreaText.{is_points, piece, add_cell, start, going_on, cell, next_row, close, close_if, step, steps}
use Rattle.doc_writer.proofs.Told.{Every, every_bind, every_if}
use Rattle.doc_writer.proofs.SidesBack.{AllHold, both_hold}
use Rattle.doc_writer.proofs.EntriesBack.{anything}

-- ---- cells with their places

-- a cell: a name, or none
abbrev pub Cell : Type 0
Cell = Option Word

pub record Placed : Type 0 where
  pub row : ℕ
  pub column : ℕ
  pub cell : Cell

abbrev pub placed : ℕ → ℕ → Cell → Placed
placed row column c = record { row = row; column = column; cell = c }

-- the cells of a row from a column on, and the cells of rows from one on
abbrev pub row_cells : ℕ → ℕ → List Cell → List Placed
row_cells row column [] = []
row_cells row column (c ∷ cells) = placed row column c ∷ row_cells row (column + 1) cells

abbrev pub grid_cells : ℕ → List (List Cell) → List Placed
grid_cells row [] = []
grid_cells row (cells ∷ rows) = row_cells row 0 cells ++ grid_cells (row + 1) rows

abbrev pub put_cell : List Found → Placed → List Found
put_cell found p = elim p.cell [ None ↦ found | Some name ↦ add_cell found name p.row p.column ]

-- the names of cells, one after another
abbrev pub found_of : List Found → List Placed → List Found
found_of found [] = found
found_of found (p ∷ cells) = found_of (put_cell found p) cells

pub found-append : (found : List Found) (xs ys : List Placed) → found_of found (xs ++ ys) ≡ found_of (found_of found xs) ys
found-append found [] ys = refl
found-append found (p ∷ xs) ys = found-append (put_cell found p) xs ys

row-append : (row column : ℕ) (cells : List Cell) (c : Cell) → row_cells row column (cells ++ c ∷ []) ≡ row_cells row column cells ++ placed row (column + length cells) c ∷ []
row-append row column [] c = ap (λ (n : ℕ). placed row n c ∷ []) (let e : column ≡ column + 0 = omega arith in e)
row-append row column (d ∷ cells) c =
    ap (λ (ps : List Placed). placed row column d ∷ ps) (row-append row (column + 1) cells c)
    ∙ ap (λ (n : ℕ). placed row column d ∷ (row_cells row (column + 1) cells ++ placed row n c ∷ [])) (let e : (column + 1) + length cells ≡ column + suc (length cells) = omega arith in e)

grid-append : (row : ℕ) (rows : List (List Cell)) (cells : List Cell) → grid_cells row (rows ++ cells ∷ []) ≡ grid_cells row rows ++ row_cells (row + length rows) 0 cells
grid-append row [] cells = append-nil (row_cells row 0 cells) ∙ ap (λ (n : ℕ). row_cells n 0 cells) (let e : row ≡ row + 0 = omega arith in e)
grid-append row (first ∷ rows) cells =
    ap (λ (ps : List Placed). row_cells row 0 first ++ ps) (grid-append (row + 1) rows cells)
    ∙ ap (λ (n : ℕ). row_cells row 0 first ++ (grid_cells (row + 1) rows ++ row_cells n 0 cells)) (let e : (row + 1) + length rows ≡ row + suc (length rows) = omega arith in e)
    ∙ sym (append_assoc (row_cells row 0 first) (grid_cells (row + 1) rows) (row_cells (row + suc (length rows)) 0 cells))

-- ---- what a reading of strings has read

abbrev domain_of : {A B : Type 0} → (A → B) → Type 0
domain_of {A} f = A

-- the strings as far as they are read
abbrev pub Reading : Type 0
Reading = domain_of close

abbrev pub IsCell : Cell → Type 0
IsCell None = ⊤
IsCell (Some name) = is_line_name name ≡ true

-- rows that are whole, and the cells of the string that is open
pub record HasRead (r : Reading) : Type 0 where
  pub grid : List (List Cell)
  pub open_cells : List Cell
  pub rows : r.rows ≡ length grid
  pub column : r.column ≡ length open_cells
  pub found : r.found ≡ found_of [] (grid_cells 0 grid ++ row_cells (length grid) 0 open_cells)
  pub full : AllHold (λ cells. length cells ≡ r.columns) grid
  pub named : AllHold (AllHold IsCell) grid
  pub open_named : AllHold IsCell open_cells
  pub closed : r.within ≡ false → open_cells ≡ []

has_none : HasRead start
has_none = record { grid = []; open_cells = []; rows = refl; column = refl; found = refl; full = tt; named = tt; open_named = tt; closed = λ _. refl }

same_cells : (r : Reading) → HasRead r → HasRead (going_on r r.column r.found)
same_cells r h = record { grid = h.grid; open_cells = h.open_cells; rows = h.rows; column = h.column; found = h.found; full = h.full; named = h.named; open_named = h.open_named; closed = λ e. absurd (true≢false e) }

more_found : (r : Reading) (h : HasRead r) (c : Cell) → found_of [] (grid_cells 0 h.grid ++ row_cells (length h.grid) 0 (h.open_cells ++ c ∷ [])) ≡ put_cell r.found (placed r.rows r.column c)
more_found r h c =
    let before : List Placed = grid_cells 0 h.grid in
    let row : ℕ = length h.grid in
    let cells : List Placed = row_cells row 0 h.open_cells in
    ap (λ (ps : List Placed). found_of [] (before ++ ps)) (row-append row 0 h.open_cells c)
    ∙ ap (found_of []) (sym (append_assoc before cells (placed row (0 + length h.open_cells) c ∷ [])))
    ∙ found-append [] (before ++ cells) (placed row (0 + length h.open_cells) c ∷ [])
    ∙ ap (λ (f : List Found). put_cell f (placed row (0 + length h.open_cells) c)) (sym h.found)
    ∙ ap (λ (n : ℕ). put_cell r.found (placed n (0 + length h.open_cells) c)) (sym h.rows)
    ∙ ap (λ (n : ℕ). put_cell r.found (placed r.rows n c)) (let e : 0 + length h.open_cells ≡ r.column = omega (arith, h.column) in e)

one_cell : (r : Reading) (c : Cell) → HasRead r → IsCell c → HasRead (going_on r (r.column + 1) (put_cell r.found (placed r.rows r.column c)))
one_cell r c h n = record {
  grid = h.grid;
  open_cells = h.open_cells ++ c ∷ [];
  rows = h.rows;
  column = omega (arith, h.column, length_push h.open_cells c);
  found = sym (more_found r h c);
  full = h.full;
  named = h.named;
  open_named = both_hold IsCell h.open_cells (c ∷ []) h.open_named (n, tt);
  closed = λ e. absurd (true≢false e);
}

cell_told : (r : Reading) (text : Word) → HasRead r → Every HasRead (cell r text)
cell_told r [] h = same_cells r h
cell_told r (byte ∷ text) h =
    every_if HasRead (is_points (byte ∷ text)) (Some (going_on r (r.column + 1) r.found)) (if is_line_name (byte ∷ text) then Some (going_on r (r.column + 1) (add_cell r.found (byte ∷ text) r.rows r.column)) else None)
    (λ _. one_cell r None h tt)
    (λ _. every_if HasRead (is_line_name (byte ∷ text)) (Some (going_on r (r.column + 1) (add_cell r.found (byte ∷ text) r.rows r.column))) None (λ e. one_cell r (Some (byte ∷ text)) h e) (λ _. tt))

none_before : (n m : ℕ) (rows : List (List Cell)) → n ≡ length rows → n ≡ 0 → AllHold (λ cells. length cells ≡ m) rows
none_before n m [] e z = tt
none_before n m (cells ∷ rows) e z = absurd (omega (arith, e, z))

close_full : (r : Reading) (h : HasRead r) → (r.rows == 0 || r.column == r.columns) ≡ true → AllHold (λ cells. length cells ≡ r.column) (h.grid ++ h.open_cells ∷ [])
close_full r h e = both_hold (λ cells. length cells ≡ r.column) h.grid (h.open_cells ∷ []) (by_case (or_cases (r.rows == 0) (r.column == r.columns) e)) (sym h.column, tt) where
  by_case : ((r.rows == 0) ≡ true) ⊎ ((r.column == r.columns) ≡ true) → AllHold (λ cells. length cells ≡ r.column) h.grid
  by_case (inl none) = none_before r.rows r.column h.grid h.rows (eqb-true r.rows 0 none)
  by_case (inr same) = subst (λ (n : ℕ). AllHold (λ cells. length cells ≡ n) h.grid) (sym (eqb-true r.column r.columns same)) h.full

close_told : (r : Reading) → HasRead r → Every HasRead (close r)
close_told r h = every_if HasRead (r.rows == 0 || r.column == r.columns) (Some (next_row r r.column)) None (λ e. record {
  grid = h.grid ++ h.open_cells ∷ [];
  open_cells = [];
  rows = omega (arith, h.rows, length_push h.grid h.open_cells);
  column = refl;
  found = h.found ∙ ap (found_of []) (sym (grid-append 0 h.grid h.open_cells ∙ ap (λ (n : ℕ). grid_cells 0 h.grid ++ row_cells n 0 h.open_cells) (let z : 0 + length h.grid ≡ length h.grid = omega arith in z)) ∙ sym (append-nil (grid_cells 0 (h.grid ++ h.open_cells ∷ []))));
  full = close_full r h e;
  named = both_hold (AllHold IsCell) h.grid (h.open_cells ∷ []) h.named (h.open_named, tt);
  open_named = tt;
  closed = λ _. refl;
}) (λ _. tt)

close_if_told : (b : Bool) (r : Reading) → HasRead r → Every HasRead (close_if b r)
close_if_told true r h = close_told r h
close_if_told false r h = h

step_told : (r : Reading) (word : Word) → HasRead r → Every HasRead (step r word)
step_told r word h =
    every_bind HasRead (λ _. ⊤) (λ p. bind (cell r p.0) (close_if p.1)) (piece r.within word) (anything (piece r.within word))
    (λ p _. every_bind HasRead HasRead (close_if p.1) (cell r p.0) (cell_told r p.0 h) (λ s k. close_if_told p.1 s k))

steps_told : (r : Reading) (words : List Word) → HasRead r → Every HasRead (steps r words)
steps_told r [] h = h
steps_told r (word ∷ words) h = every_bind HasRead HasRead (λ next. steps next words) (step r word) (step_told r word h) (λ s k. steps_told s words k)

pub read_told : (words : List Word) → Every HasRead (steps start words)
read_told words = steps_told start words has_none
