-- Areas as they are written, read again.
use Rattle.std.proofs.Common.{◌≡◌, ℕ, zero, suc, pos, ◌+◌, ◌-◌, ◌<◌, ◌≤◌, ◌+ℤ◌, int_lt, Bool, true, false, not, ◌&&◌, ◌||◌, ◌==◌, nat_lt, nat_le, List, [], ◌∷◌, ◌++◌, length, map, drop, is_some, refl, ap, sym, subst, ◌∙◌, arith, if◌then◌else◌, Option, Some, None, inl, inr, ◌⊎◌, codes}
use Rattle.std.specs.List.{list_all, list_any}
use Rattle.std.specs.Option.{option_map}
use Rattle.std.specs.Str.{bytes_eq}
use Rattle.std.proofs.lemmas.Bool.{and_parts, and_from, and_right, true≢false, lt-ltb, le-ltb, le-leb, lt-leb, ltb-true, eq-eqb, eqb-true, not-true, ne_eqb, cases_lt, false_from_ne_true, or_right, or_left}
use Rattle.std.proofs.lemmas.List.{append-nil}
use Rattle.std.proofs.lemmas.List.Folds.{list_all-append}
use Rattle.std.proofs.lemmas.Slice.Eq.{bytes_eq-Decides}
use Rattle.lunit.specs.Names.{between, is_name, begins_name, continues_name}
use Rattle.style_types.specs.declared.value.Areas.{Areas}
use Rattle.track_text.specs.Words.{Word, bind, is_alone, begins_with}
use Rattle.track_text.specs.Values.{ends_in, before}
use Rattle.track_text.specs.NameSets.{is_line_name, is_reserved}
use Rattle.track_text.specs.Unsupported.{is_one_of, wide_keywords, functions, is_measured}
use Rattle.value_text.specs.declared.found.Found.{Found}
use Rattle.value_text.specs.declared.form.Form.TheVariants as form
use Rattle.value_text.specs.declared.form.Refused.TheVariants as refused
use Rattle.value_text.specs.AreaText.{quote, piece_of, piece, is_filled, add_cell, start, going_on, cell, close, close_if, step, steps, span_of, area_of, areas, is_whole, finish, strings_of, areas_of}
use Rattle.value_text.specs.Refusals.{holds_refused}
use Rattle.value_text.specs.ValueText.{areas_value, value_of}
use Rattle.doc_writer.specs.Areas.{Named, is_in, has_cell, cell_word, quote_if, cells_from, row_words, rows_from, areas_words}
use Rattle.doc_writer.proofs.WordsBack.{is_plain}
use Rattle.doc_writer.proofs.LengthsBack.{ends_behind, before_unit}
use Rattle.doc_writer.proofs.Told.{Every, every_map, every_bind, every_if}
use Rattle.doc_writer.proofs.QuietBack.{letters_not_measured, name_not_measured, name_no_number, name_first_byte, name_not, names_not, quiet_word}
use Rattle.doc_writer.proofs.ValuesBack.{is_value_token, plain_token, line_name_plain, name_token, IsBack}
use Rattle.doc_writer.proofs.SidesBack.{AllHold, both_hold}
use Rattle.doc_writer.proofs.GridsBack.{Reading, Cell, Placed, placed, row_cells, grid_cells, put_cell, found_of, found-append, IsCell, HasRead, read_told}
use Rattle.doc_writer.proofs.CountsBack.{itself, named_by, is_named, tally, one_if, in_box, IsFoundOf, has_name, AreFound, AllFound, grid_found, all_boxed, filled_by}

-- ---- the word of a cell

below : (k last : ℕ) → int_lt (pos k) (pos last +ℤ pos 1) ≡ nat_le k last
below k last = by_order (cases_lt last k) where
  by_order : (last < k) ⊎ (k ≤ last) → nat_lt k (last + 1) ≡ nat_le k last
  by_order (inl past) = le-ltb k (last + 1) (omega arith) ∙ sym (lt-leb k last past)
  by_order (inr within) = lt-ltb k (last + 1) (omega arith) ∙ sym (le-leb k last within)

in_span : (k first last : ℕ) → is_in k (span_of first last) ≡ (nat_le first k && nat_le k last)
in_span k first last = ap (λ (b : Bool). nat_le first k && b) (below k last)

has_area : (f : Found) (p : Placed) → has_cell (area_of f).1 p.row p.column ≡ in_box f p
has_area f p = λ i. in_span p.row f.top f.bottom i && in_span p.column f.left f.right i

abbrev text_of : Cell → Word
text_of None = codes "."
text_of (Some name) = name

named_text : (name : Word) (c : Cell) → named_by name c ≡ true → name ≡ text_of c
named_text name None h = absurd (true≢false (sym h))
named_text name (Some other) h = sym ((bytes_eq-Decides other name).0 h)

abbrev HasBox : Placed → List Found → Type 0
HasBox p found = (name : Word) → p.cell ≡ Some name → list_any (λ f. bytes_eq f.name name && in_box f p) found ≡ true

none_text : (p : Placed) → HasBox p [] → codes "." ≡ text_of p.cell
none_text p h = by_cell p.cell refl where
  by_cell : (c : Cell) → p.cell ≡ c → codes "." ≡ text_of c
  by_cell None e = refl
  by_cell (Some name) e = absurd (true≢false (sym (h name e)))

cell_text : (p : Placed) (found : List Found) → AllHold (λ f. in_box f p ≡ true → is_named f.name p ≡ true) found → HasBox p found → cell_word (map area_of found) p.row p.column ≡ text_of p.cell
cell_text p [] a h = none_text p h
cell_text p (f ∷ found) a h =
    ap (λ (b : Bool). if b then f.name else cell_word (map area_of found) p.row p.column) (has_area f p)
    ∙ by_test (in_box f p) refl (λ k. cell_text p found a.1 k) where
      later : (b : Bool) (x : Word) → in_box f p ≡ false → ((bytes_eq f.name x && in_box f p) || b) ≡ b
      later b x e = ap (λ (t : Bool). t || b) (and_right (bytes_eq f.name x) (in_box f p) e)

      by_test : (b : Bool) → in_box f p ≡ b → (HasBox p found → cell_word (map area_of found) p.row p.column ≡ text_of p.cell) → (if b then f.name else cell_word (map area_of found) p.row p.column) ≡ text_of p.cell
      by_test true e more = named_text f.name p.cell (a.0 e)
      by_test false e more = more (λ name c. sym (later (list_any (λ f. bytes_eq f.name name && in_box f p) found) name e) ∙ h name c)

-- ---- each cell against each name

all_map : {A : Type 0} (P Q : A → Type 0) (xs : List A) → ((x : A) → P x → Q x) → AllHold P xs → AllHold Q xs
all_map P Q [] h a = tt
all_map P Q (x ∷ xs) h a = (h x a.0, all_map P Q xs h a.1)

all_both : {A : Type 0} (P Q R : A → Type 0) (xs : List A) → ((x : A) → P x → Q x → R x) → AllHold P xs → AllHold Q xs → AllHold R xs
all_both P Q R [] h a b = tt
all_both P Q R (x ∷ xs) h a b = (h x a.0 b.0, all_both P Q R xs h a.1 b.1)

always : {A : Type 0} (P : A → Type 0) (xs : List A) → ((x : A) → P x) → AllHold P xs
always P [] h = tt
always P (x ∷ xs) h = (h x, always P xs h)

turned : (P : Found → Placed → Type 0) (found : List Found) (cells : List Placed) → AllHold (λ f. AllHold (P f) cells) found → AllHold (λ p. AllHold (λ f. P f p) found) cells
turned P [] cells a = always (λ p. AllHold (λ f. P f p) []) cells (λ p. tt)
turned P (f ∷ found) cells a = all_both (P f) (λ p. AllHold (λ g. P g p) found) (λ p. AllHold (λ g. P g p) (f ∷ found)) cells (λ p h k. (h, k)) a.0 (turned P found cells a.1)

all_filled : (row : ℕ) (rows : List (List Cell)) (found : List Found) → AllHold (IsFoundOf row (grid_cells 0 rows)) found → list_all is_filled found ≡ true
    → AllHold (λ f. AllHold (λ p. in_box f p ≡ true → is_named f.name p ≡ true) (grid_cells 0 rows)) found
all_filled row rows [] g e = tt
all_filled row rows (f ∷ found) g e =
    let parts = and_parts (is_filled f) (list_all is_filled found) e in
    (filled_by row rows f g.0 parts.0, all_filled row rows found g.1 parts.1)

each_boxed : (row : ℕ) (cells : List Placed) (found : List Found) → AllHold (IsFoundOf row cells) found → AllHold (λ f. AllHold (λ p. is_named f.name p ≡ true → in_box f p ≡ true) cells) found
each_boxed row cells [] g = tt
each_boxed row cells (f ∷ found) g = let first : IsFoundOf row cells f = g.0 in (all_boxed f cells first.within, each_boxed row cells found g.1)

abbrev IsCounted : List Placed → Placed → Type 0
IsCounted cells p = (name : Word) → p.cell ≡ Some name → 1 ≤ tally (is_named name) cells

counted : (cells : List Placed) → AllHold (IsCounted cells) cells
counted [] = tt
counted (p ∷ cells) = (
  (λ name c. here name (is_named name p) (ap (named_by name) c ∙ itself name)),
  all_map (IsCounted cells) (IsCounted (p ∷ cells)) cells (λ q h name c. let some : 1 ≤ tally (is_named name) cells = h name c in omega (arith, some)) (counted cells),
) where
  here : (name : Word) (b : Bool) → b ≡ true → 1 ≤ one_if b + tally (is_named name) cells
  here name b e = subst (λ (t : Bool). 1 ≤ one_if t + tally (is_named name) cells) (sym e) (omega arith)

some_box : (p : Placed) (name : Word) (found : List Found) → AllHold (λ f. is_named f.name p ≡ true → in_box f p ≡ true) found → p.cell ≡ Some name → has_name found name ≡ true → list_any (λ f. bytes_eq f.name name && in_box f p) found ≡ true
some_box p name [] a c h = absurd (true≢false (sym h))
some_box p name (f ∷ found) a c h = by_name (bytes_eq f.name name) refl (some_box p name found a.1 c) where
  by_name : (b : Bool) → bytes_eq f.name name ≡ b → (has_name found name ≡ true → list_any (λ f. bytes_eq f.name name && in_box f p) found ≡ true) → ((b && in_box f p) || list_any (λ f. bytes_eq f.name name && in_box f p) found) ≡ true
  by_name true e more =
      let named : is_named f.name p ≡ true = ap (named_by f.name) c ∙ ap (λ (n : Word). bytes_eq n f.name) (sym ((bytes_eq-Decides f.name name).0 e)) ∙ itself f.name in
      or_left (in_box f p) (list_any (λ f. bytes_eq f.name name && in_box f p) found) (a.0 named)
  by_name false e more = more (ap (λ (b : Bool). b || has_name found name) (sym e) ∙ h)

-- each cell is written as what was read
abbrev AreWritten : List Named → List Placed → Type 0
AreWritten areas cells = AllHold (λ p. cell_word areas p.row p.column ≡ text_of p.cell) cells

cells_written : (rows : List (List Cell)) (found : List Found) → AllFound (grid_cells 0 rows) found → list_all is_filled found ≡ true → AreWritten (map area_of found) (grid_cells 0 rows)
cells_written rows found a e =
    let cells : List Placed = grid_cells 0 rows in
    let g : AreFound a.row cells found = a.are in
    let filled : AllHold (λ p. AllHold (λ f. in_box f p ≡ true → is_named f.name p ≡ true) found) cells = turned (λ f p. in_box f p ≡ true → is_named f.name p ≡ true) found cells (all_filled a.row rows found g.each e) in
    let inside : AllHold (λ p. AllHold (λ f. is_named f.name p ≡ true → in_box f p ≡ true) found) cells = turned (λ f p. is_named f.name p ≡ true → in_box f p ≡ true) found cells (each_boxed a.row cells found g.each) in
    let boxed : AllHold (λ p. HasBox p found) cells =
    all_both (λ p. AllHold (λ f. is_named f.name p ≡ true → in_box f p ≡ true) found) (IsCounted cells) (λ p. HasBox p found) cells (λ p k n name c. some_box p name found k c (there name (n name c))) inside (counted cells) in
    all_both (λ p. AllHold (λ f. in_box f p ≡ true → is_named f.name p ≡ true) found) (λ p. HasBox p found) (λ p. cell_word (map area_of found) p.row p.column ≡ text_of p.cell) cells (λ p k h. cell_text p found k h) filled boxed where
      there : (name : Word) → 1 ≤ tally (is_named name) (grid_cells 0 rows) → has_name found name ≡ true
      there name some = by_test (has_name found name) refl where
        by_test : (b : Bool) → has_name found name ≡ b → b ≡ true
        by_test true t = refl
        by_test false t = absurd (omega (arith, some, a.are.all name t))

-- ---- the words of rows of cells

abbrev word_cells : Bool → List Cell → List Word
word_cells opens [] = []
word_cells opens (c ∷ cells) = (quote_if opens ++ (text_of c ++ quote_if (length cells == 0))) ∷ word_cells false cells

abbrev row_word : List Cell → List Word
row_word [] = codes "\"\"" ∷ []
row_word (c ∷ cells) = word_cells true (c ∷ cells)

abbrev all_rows : List (List Cell) → List Word
all_rows [] = []
all_rows (cells ∷ rows) = row_word cells ++ all_rows rows

cells_are : (opens : Bool) (areas : List Named) (row column : ℕ) (cells : List Cell) → AreWritten areas (row_cells row column cells) → cells_from opens areas row column (length cells) ≡ word_cells opens cells
cells_are opens areas row column [] a = refl
cells_are opens areas row column (c ∷ cells) a =
    ap (λ (w : Word). (quote_if opens ++ (w ++ quote_if (length cells == 0))) ∷ cells_from false areas row (column + 1) (length cells)) a.0
    ∙ ap (λ (ws : List Word). (quote_if opens ++ (text_of c ++ quote_if (length cells == 0))) ∷ ws) (cells_are false areas row (column + 1) cells a.1)

row_is : (areas : List Named) (columns row : ℕ) (cells : List Cell) → length cells ≡ columns → AreWritten areas (row_cells row 0 cells) → row_words areas columns row ≡ row_word cells
row_is areas columns row [] n a = ap (λ (b : Bool). if b then codes "\"\"" ∷ [] else cells_from true areas row 0 columns) (eq-eqb columns 0 (sym n))
row_is areas columns row (c ∷ cells) n a =
    ap (λ (b : Bool). if b then codes "\"\"" ∷ [] else cells_from true areas row 0 columns) (ne_eqb columns 0 (λ e. omega (arith, e, n)))
    ∙ ap (cells_from true areas row 0) (sym n)
    ∙ cells_are true areas row 0 (c ∷ cells) a

front_hold : {A : Type 0} (P : A → Type 0) (xs ys : List A) → AllHold P (xs ++ ys) → AllHold P xs × AllHold P ys
front_hold P [] ys h = (tt, h)
front_hold P (x ∷ xs) ys h = let rest = front_hold P xs ys h.1 in ((h.0, rest.0), rest.1)

abbrev AreFull : ℕ → List (List Cell) → Type 0
AreFull columns rows = AllHold (λ cells. length cells ≡ columns) rows

rows_are : (areas : List Named) (columns row : ℕ) (rows : List (List Cell)) → AreFull columns rows → AreWritten areas (grid_cells row rows) → rows_from areas columns row (length rows) ≡ all_rows rows
rows_are areas columns row [] f a = refl
rows_are areas columns row (cells ∷ rows) f a =
    let parts = front_hold (λ p. cell_word areas p.row p.column ≡ text_of p.cell) (row_cells row 0 cells) (grid_cells (row + 1) rows) a in
    ap (λ (ws : List Word). ws ++ rows_from areas columns (row + 1) (length rows)) (row_is areas columns row cells f.0 parts.0)
    ∙ ap (λ (ws : List Word). row_word cells ++ ws) (rows_are areas columns (row + 1) rows f.1 parts.1)

-- ---- the words are read as the cells

abbrev reading : Bool → ℕ → ℕ → ℕ → List Found → Reading
reading within column columns rows found = record { within = within; column = column; columns = columns; rows = rows; found = found }

name_byte : (byte : ℕ) (bytes : List ℕ) → is_line_name (byte ∷ bytes) ≡ true → (byte == 46) ≡ false
name_byte byte bytes h = false_from_ne_true (byte == 46) (λ e. true≢false (sym (name_first_byte byte bytes h) ∙ ap begins_name (eqb-true byte 46 e)))

cell_read : (r : Reading) (c : Cell) → IsCell c → cell r (text_of c) ≡ Some (going_on r (r.column + 1) (put_cell r.found (placed r.rows r.column c)))
cell_read r None h = refl
cell_read r (Some []) h = absurd (true≢false (sym h))
cell_read r (Some (byte ∷ bytes)) h =
    ap (λ (b : Bool). if b && list_all (λ b. b == 46) bytes then Some (going_on r (r.column + 1) r.found) else if is_line_name (byte ∷ bytes) then Some (going_on r (r.column + 1) (add_cell r.found (byte ∷ bytes) r.rows r.column)) else None) (name_byte byte bytes h)
    ∙ ap (λ (b : Bool). if b then Some (going_on r (r.column + 1) (add_cell r.found (byte ∷ bytes) r.rows r.column)) else None) h

-- the text of a cell has no quote
abbrev no_quote : ℕ → Bool
no_quote byte = not (byte == 34)

goes_on : (byte : ℕ) → continues_name byte ≡ true → no_quote byte ≡ true
goes_on byte h = by_test (byte == 34) refl where
  by_test : (b : Bool) → (byte == 34) ≡ b → not b ≡ true
  by_test true e = absurd (true≢false (sym h ∙ ap continues_name (eqb-true byte 34 e)))
  by_test false e = refl

all_go_on : (bytes : List ℕ) → list_all continues_name bytes ≡ true → list_all no_quote bytes ≡ true
all_go_on [] h = refl
all_go_on (byte ∷ bytes) h =
    let parts = and_parts (continues_name byte) (list_all continues_name bytes) h in
    and_from (no_quote byte) (list_all no_quote bytes) (goes_on byte parts.0) (all_go_on bytes parts.1)

name_no_quote : (name : Word) → is_line_name name ≡ true → list_all no_quote name ≡ true
name_no_quote [] h = refl
name_no_quote (byte ∷ bytes) h =
    let a = and_parts (is_name (byte ∷ bytes)) (not (is_reserved (byte ∷ bytes))) h in
    let b = and_parts (begins_name byte && list_all continues_name bytes) (nat_le (length (byte ∷ bytes)) 58) a.0 in
    let c = and_parts (begins_name byte) (list_all continues_name bytes) b.0 in
    all_go_on (byte ∷ bytes) (and_from (continues_name byte) (list_all continues_name bytes) (or_left (begins_name byte) (between 48 57 byte || byte == 45) c.0) c.1)

text_no_quote : (c : Cell) → IsCell c → list_all no_quote (text_of c) ≡ true
text_no_quote None h = refl
text_no_quote (Some name) h = name_no_quote name h

all_dropped : (k : ℕ) (bytes : List ℕ) → list_all no_quote bytes ≡ true → list_all no_quote (drop k bytes) ≡ true
all_dropped zero bytes h = h
all_dropped (suc k) [] h = refl
all_dropped (suc k) (byte ∷ bytes) h = all_dropped k bytes (and_parts (no_quote byte) (list_all no_quote bytes) h).1

no_end : (text : Word) → list_all no_quote text ≡ true → ends_in quote text ≡ false
no_end text h = false_from_ne_true (ends_in quote text) (λ e. true≢false (sym (all_dropped (length text - 1) text h) ∙ ap (list_all no_quote) ((bytes_eq-Decides (drop (length text - 1) text) quote).0 e)))

piece_last : (text : Word) → piece_of (text ++ quote) ≡ (text, true)
piece_last text =
    ap (λ (b : Bool). if b then (before quote (text ++ quote), true) else (text ++ quote, false)) (ends_behind quote text quote (omega arith))
    ∙ ap (λ (w : Word). (w, true)) (before_unit quote text)

piece_first : (text : Word) (last : Bool) → list_all no_quote text ≡ true → piece_of (text ++ quote_if last) ≡ (text, last)
piece_first text true h = piece_last text
piece_first text false h = ap piece_of (append-nil text) ∙ ap (λ (b : Bool). if b then (before quote text, true) else (text, false)) (no_end text h)

piece_is : (within : Bool) (text : Word) (last : Bool) → list_all no_quote text ≡ true → piece within (quote_if (not within) ++ (text ++ quote_if last)) ≡ Some (text, last)
piece_is true text last h = ap Some (piece_first text last h)
piece_is false text last h = ap Some (piece_first text last h)

step_cell : (within last : Bool) (column columns rows : ℕ) (found : List Found) (c : Cell) → IsCell c
    → step (reading within column columns rows found) (quote_if (not within) ++ (text_of c ++ quote_if last)) ≡ close_if last (reading true (column + 1) columns rows (put_cell found (placed rows column c)))
step_cell within last column columns rows found c h =
    let r : Reading = reading within column columns rows found in
    ap (λ (o : Option (Word × Bool)). bind o (λ p. bind (cell r p.0) (close_if p.1))) (piece_is within (text_of c) last (text_no_quote c h))
    ∙ ap (λ (o : Option Reading). bind o (close_if last)) (cell_read r c h)

closes : (rows column columns : ℕ) (found : List Found) → (rows == 0 || column == columns) ≡ true → close (reading true column columns rows found) ≡ Some (reading false 0 column (rows + 1) found)
closes rows column columns found h = ap (λ (b : Bool). if b then Some (reading false 0 column (rows + 1) found) else None) h

cells_steps : (within : Bool) (column columns rows : ℕ) (found : List Found) (c : Cell) (cells : List Cell) (rest : List Word) → AllHold IsCell (c ∷ cells) → (rows == 0 || column + length (c ∷ cells) == columns) ≡ true
    → steps (reading within column columns rows found) (word_cells (not within) (c ∷ cells) ++ rest) ≡ steps (reading false 0 (column + length (c ∷ cells)) (rows + 1) (found_of found (row_cells rows column (c ∷ cells)))) rest
cells_steps within column columns rows found c [] rest h e =
    ap (λ (o : Option Reading). bind o (λ next. steps next rest)) (step_cell within true column columns rows found c h.0 ∙ closes rows (column + 1) columns (put_cell found (placed rows column c)) e)
cells_steps within column columns rows found c (d ∷ cells) rest h e =
    let n : (column + 1) + length (d ∷ cells) ≡ column + length (c ∷ d ∷ cells) = omega arith in
    ap (λ (b : Bool). bind (step (reading within column columns rows found) (quote_if (not within) ++ (text_of c ++ quote_if b))) (λ next. steps next (word_cells false (d ∷ cells) ++ rest))) (ne_eqb (length (d ∷ cells)) 0 (λ e. omega (arith, e)))
    ∙ ap (λ (o : Option Reading). bind o (λ next. steps next (word_cells false (d ∷ cells) ++ rest))) (step_cell within false column columns rows found c h.0)
    ∙ cells_steps true (column + 1) columns rows (put_cell found (placed rows column c)) d cells rest h.1 (ap (λ (m : ℕ). rows == 0 || m == columns) n ∙ e)
    ∙ ap (λ (m : ℕ). steps (reading false 0 m (rows + 1) (found_of found (row_cells rows column (c ∷ d ∷ cells)))) rest) n

row_steps : (columns rows : ℕ) (found : List Found) (cells : List Cell) (rest : List Word) → AllHold IsCell cells → (rows == 0 || length cells == columns) ≡ true
    → steps (reading false 0 columns rows found) (row_word cells ++ rest) ≡ steps (reading false 0 (length cells) (rows + 1) (found_of found (row_cells rows 0 cells))) rest
row_steps columns rows found [] rest h e = ap (λ (o : Option Reading). bind o (λ next. steps next rest)) (closes rows 0 columns found e)
row_steps columns rows found (c ∷ cells) rest h e =
    let n : 0 + length (c ∷ cells) ≡ length (c ∷ cells) = omega arith in
    cells_steps false 0 columns rows found c cells rest h (ap (λ (m : ℕ). rows == 0 || m == columns) n ∙ e)
    ∙ ap (λ (m : ℕ). steps (reading false 0 m (rows + 1) (found_of found (row_cells rows 0 (c ∷ cells)))) rest) n

rows_steps : (columns rows : ℕ) (found : List Found) (grid : List (List Cell)) → AllHold (AllHold IsCell) grid → AreFull columns grid
    → steps (reading false 0 columns rows found) (all_rows grid) ≡ Some (reading false 0 columns (rows + length grid) (found_of found (grid_cells rows grid)))
rows_steps columns rows found [] h f = ap (λ (n : ℕ). Some (reading false 0 columns n found)) (let e : rows ≡ rows + 0 = omega arith in e)
rows_steps columns rows found (cells ∷ grid) h f =
    row_steps columns rows found cells (all_rows grid) h.0 (or_right (rows == 0) (length cells == columns) (eq-eqb (length cells) columns f.0))
    ∙ ap (λ (n : ℕ). steps (reading false 0 n (rows + 1) (found_of found (row_cells rows 0 cells))) (all_rows grid)) f.0
    ∙ rows_steps columns (rows + 1) (found_of found (row_cells rows 0 cells)) grid h.1 f.1
    ∙ ap (λ (n : ℕ). Some (reading false 0 columns n (found_of (found_of found (row_cells rows 0 cells)) (grid_cells (rows + 1) grid)))) (let e : (rows + 1) + length grid ≡ rows + suc (length grid) = omega arith in e)
    ∙ ap (λ (fs : List Found). Some (reading false 0 columns (rows + suc (length grid)) fs)) (sym (found-append found (row_cells rows 0 cells) (grid_cells (rows + 1) grid)))

grid_steps : (columns : ℕ) (cells : List Cell) (grid : List (List Cell)) → AllHold (AllHold IsCell) (cells ∷ grid) → AreFull columns (cells ∷ grid)
    → steps start (all_rows (cells ∷ grid)) ≡ Some (reading false 0 columns (1 + length grid) (found_of [] (grid_cells 0 (cells ∷ grid))))
grid_steps columns cells grid h f =
    row_steps 0 0 [] cells (all_rows grid) h.0 refl
    ∙ ap (λ (n : ℕ). steps (reading false 0 n 1 (found_of [] (row_cells 0 0 cells))) (all_rows grid)) f.0
    ∙ rows_steps columns 1 (found_of [] (row_cells 0 0 cells)) grid h.1 f.1
    ∙ ap (λ (fs : List Found). Some (reading false 0 columns (1 + length grid) fs)) (sym (found-append [] (row_cells 0 0 cells) (grid_cells 1 grid)))

-- ---- the strings of areas

no_cells_open : (r : Reading) (h : HasRead r) → r.within ≡ false → r.found ≡ found_of [] (grid_cells 0 h.grid)
no_cells_open r h w = h.found ∙ ap (λ (cells : List Cell). found_of [] (grid_cells 0 h.grid ++ row_cells (length h.grid) 0 cells)) (h.closed w) ∙ ap (found_of []) (append-nil (grid_cells 0 h.grid))

strings_written : (r : Reading) (h : HasRead r) → r.within ≡ false → list_all is_filled r.found ≡ true → areas_words (Some (areas r)) ≡ all_rows h.grid
strings_written r h w e =
    let same : r.found ≡ found_of [] (grid_cells 0 h.grid) = no_cells_open r h w in
    ap (rows_from (map area_of r.found) r.columns 0) h.rows
    ∙ rows_are (map area_of r.found) r.columns 0 h.grid h.full (cells_written h.grid r.found (subst (AllFound (grid_cells 0 h.grid)) (sym same) (grid_found h.grid)) e)

abbrev made : Reading → ℕ → Reading
made r rows = reading false 0 r.columns rows r.found

strings_back : (r : Reading) (h : HasRead r) → is_whole r ≡ true → strings_of (areas_words (Some (areas r))) ≡ Some (areas r)
strings_back r h e =
    let parts = and_parts (not r.within) (nat_lt 0 r.rows && list_all is_filled r.found) e in
    let more = and_parts (nat_lt 0 r.rows) (list_all is_filled r.found) parts.1 in
    let closed : r.within ≡ false = not-true r.within parts.0 in
    ap strings_of (strings_written r h closed more.1)
    ∙ by_grid h.grid h.rows h.named h.full (no_cells_open r h closed) more.0 parts.1 where
      by_grid : (grid : List (List Cell)) → r.rows ≡ length grid → AllHold (AllHold IsCell) grid → AreFull r.columns grid → r.found ≡ found_of [] (grid_cells 0 grid) → nat_lt 0 r.rows ≡ true → (nat_lt 0 r.rows && list_all is_filled r.found) ≡ true
          → strings_of (all_rows grid) ≡ Some (areas r)
      by_grid [] n a f same some whole = absurd (omega (arith, n, ltb-true 0 r.rows some))
      by_grid (cells ∷ grid) n a f same some whole =
          ap (λ (o : Option Reading). bind o finish) (grid_steps r.columns cells grid a f)
          ∙ ap (λ (fs : List Found). finish (reading false 0 r.columns (1 + length grid) fs)) (sym same)
          ∙ ap (λ (m : ℕ). finish (made r m)) (let k : 1 + length grid ≡ r.rows = omega (arith, n) in k)
          ∙ ap (λ (b : Bool). if b then Some (areas r) else None) whole

-- ---- the words of strings

-- a word of a string, of which nothing is to be said
record IsCalm (relative : Bool) (word : Word) : Type 0 where
  wide : is_one_of wide_keywords word ≡ false
  measured : is_measured relative word ≡ false
  bracket : bytes_eq word (codes "[") ≡ false
  opening : bytes_eq word (codes "(") ≡ false
  token : is_value_token word ≡ true

abbrev has_quote : Word → Bool
has_quote word = list_any (λ byte. byte == 34) word

quote_not : (word due : Word) → has_quote word ≡ true → has_quote due ≡ false → bytes_eq word due ≡ false
quote_not word due h n = false_from_ne_true (bytes_eq word due) (λ e. true≢false (sym h ∙ ap has_quote ((bytes_eq-Decides word due).0 e) ∙ n))

quotes_not : (word : Word) (dues : List Word) → has_quote word ≡ true → list_all (λ due. not (has_quote due)) dues ≡ true → is_one_of dues word ≡ false
quotes_not word [] h n = refl
quotes_not word (due ∷ dues) h n =
    let parts = and_parts (not (has_quote due)) (list_all (λ due. not (has_quote due)) dues) n in
    ap (λ (b : Bool). b || is_one_of dues word) (quote_not word due h (not-true (has_quote due) parts.0)) ∙ quotes_not word dues h parts.1

quoted_calm : (relative : Bool) (word : Word) → has_quote word ≡ true → is_measured relative word ≡ false → is_value_token word ≡ true → IsCalm relative word
quoted_calm relative word h m t = record {
  wide = quotes_not word wide_keywords h refl;
  measured = m;
  bracket = quote_not word (codes "[") h refl;
  opening = quote_not word (codes "(") h refl;
  token = t;
}

text_plain : (c : Cell) → IsCell c → list_all is_plain (text_of c) ≡ true
text_plain None h = refl
text_plain (Some name) h = line_name_plain name h

quote_plain : (last : Bool) → list_all is_plain (quote_if last) ≡ true
quote_plain true = refl
quote_plain false = refl

both_plain : (xs ys : List ℕ) → list_all is_plain xs ≡ true → list_all is_plain ys ≡ true → list_all is_plain (xs ++ ys) ≡ true
both_plain xs ys a b = list_all-append is_plain xs ys ∙ and_from (list_all is_plain xs) (list_all is_plain ys) a b

-- a word that begins a string
first_calm : (relative : Bool) (c : Cell) (last : Bool) → IsCell c → IsCalm relative (34 ∷ (text_of c ++ quote_if last))
first_calm relative c last h =
    quoted_calm relative (34 ∷ (text_of c ++ quote_if last)) refl (letters_not_measured relative 34 (text_of c ++ quote_if last) refl)
    (plain_token (34 ∷ (text_of c ++ quote_if last)) refl (both_plain (text_of c) (quote_if last) (text_plain c h) (quote_plain last)))

ends_quoted : (text : Word) → has_quote (text ++ quote) ≡ true
ends_quoted [] = refl
ends_quoted (byte ∷ text) = or_right (byte == 34) (has_quote (text ++ quote)) (ends_quoted text)

name_measured : (relative : Bool) (name more : Word) → is_line_name name ≡ true → is_measured relative (name ++ more) ≡ false
name_measured relative [] more h = absurd (true≢false (sym h))
name_measured relative (byte ∷ bytes) more h = letters_not_measured relative byte (bytes ++ more) (name_no_number byte (name_first_byte byte bytes h))

token_more : (name more : Word) → is_line_name name ≡ true → list_all is_plain more ≡ true → is_value_token (name ++ more) ≡ true
token_more [] more h p = absurd (true≢false (sym h))
token_more (byte ∷ bytes) more h p = plain_token (byte ∷ (bytes ++ more)) refl (both_plain (byte ∷ bytes) more (line_name_plain (byte ∷ bytes) h) p)

-- a further word of a string
later_calm : (relative : Bool) (c : Cell) (last : Bool) → IsCell c → IsCalm relative (text_of c ++ quote_if last)
later_calm true None true h = record { wide = refl; measured = refl; bracket = refl; opening = refl; token = refl }
later_calm true None false h = record { wide = refl; measured = refl; bracket = refl; opening = refl; token = refl }
later_calm false None true h = record { wide = refl; measured = refl; bracket = refl; opening = refl; token = refl }
later_calm false None false h = record { wide = refl; measured = refl; bracket = refl; opening = refl; token = refl }
later_calm relative (Some name) true h = quoted_calm relative (name ++ quote) (ends_quoted name) (name_measured relative name quote h) (token_more name quote h refl)
later_calm relative (Some name) false h = subst (IsCalm relative) (sym (append-nil name)) (record {
  wide = names_not name wide_keywords h refl;
  measured = name_not_measured relative name h;
  bracket = name_not name (codes "[") h refl;
  opening = name_not name (codes "(") h refl;
  token = name_token name h;
})

later_all : (relative : Bool) (cells : List Cell) → AllHold IsCell cells → AllHold (IsCalm relative) (word_cells false cells)
later_all relative [] h = tt
later_all relative (c ∷ cells) h = (later_calm relative c (length cells == 0) h.0, later_all relative cells h.1)

empty_calm : (relative : Bool) → IsCalm relative (codes "\"\"")
empty_calm true = record { wide = refl; measured = refl; bracket = refl; opening = refl; token = refl }
empty_calm false = record { wide = refl; measured = refl; bracket = refl; opening = refl; token = refl }

row_calm : (relative : Bool) (cells : List Cell) → AllHold IsCell cells → AllHold (IsCalm relative) (row_word cells)
row_calm relative [] h = (empty_calm relative, tt)
row_calm relative (c ∷ cells) h = (first_calm relative c (length cells == 0) h.0, later_all relative cells h.1)

rows_calm : (relative : Bool) (grid : List (List Cell)) → AllHold (AllHold IsCell) grid → AllHold (IsCalm relative) (all_rows grid)
rows_calm relative [] h = tt
rows_calm relative (cells ∷ grid) h = both_hold (IsCalm relative) (row_word cells) (all_rows grid) (row_calm relative cells h.0) (rows_calm relative grid h.1)

calm_next : (relative : Bool) (words : List Word) → AllHold (IsCalm relative) words → begins_with (codes "(") words ≡ false
calm_next relative [] h = refl
calm_next relative (word ∷ words) h = let c : IsCalm relative word = h.0 in c.opening

calm_quiet : (relative : Bool) (words : List Word) → AllHold (IsCalm relative) words → holds_refused false relative refused.Nothing words ≡ false
calm_quiet relative [] h = refl
calm_quiet relative (word ∷ words) h =
    let c : IsCalm relative word = h.0 in
    quiet_word relative refused.Nothing word words (record { wide = c.wide; measured = c.measured; function = and_right (is_one_of functions word) (begins_with (codes "(") words) (calm_next relative words h.1); not_refused = refl; bracket = c.bracket })
    ∙ calm_quiet relative words h.1

calm_tokens : (relative : Bool) (words : List Word) → AllHold (IsCalm relative) words → list_all is_value_token words ≡ true
calm_tokens relative [] h = refl
calm_tokens relative (word ∷ words) h =
    let c : IsCalm relative word = h.0 in
    and_from (is_value_token word) (list_all is_value_token words) c.token (calm_tokens relative words h.1)

-- ---- the value

-- strings are not `none`
not_none : (words : List Word) (a : Areas) → strings_of words ≡ Some a → is_alone (codes "none") words ≡ false
not_none [] a e = refl
not_none (word ∷ []) a e = false_from_ne_true (bytes_eq word (codes "none")) (λ t. true≢false (sym (ap is_some e) ∙ ap (λ (w : Word). is_some (strings_of (w ∷ []))) ((bytes_eq-Decides word (codes "none")).0 t)))
not_none (word ∷ next ∷ words) a e = refl

some_back : (relative : Bool) (r : Reading) → HasRead r → is_whole r ≡ true → IsBack relative form.Areas refused.Nothing (areas_value (Some (areas r)))
some_back relative r h e =
    let parts = and_parts (not r.within) (nat_lt 0 r.rows && list_all is_filled r.found) e in
    let more = and_parts (nat_lt 0 r.rows) (list_all is_filled r.found) parts.1 in
    let words : areas_words (Some (areas r)) ≡ all_rows h.grid = strings_written r h (not-true r.within parts.0) more.1 in
    let read : strings_of (areas_words (Some (areas r))) ≡ Some (areas r) = strings_back r h e in
    record {
      reads =
          ap (λ (b : Bool). option_map areas_value (if b then Some None else option_map Some (strings_of (areas_words (Some (areas r)))))) (not_none (areas_words (Some (areas r))) (areas r) read)
          ∙ ap (λ (o : Option Areas). option_map areas_value (option_map Some o)) read;
      quiet = ap (holds_refused false relative refused.Nothing) words ∙ calm_quiet relative (all_rows h.grid) (rows_calm relative h.grid h.named);
      tokens = ap (list_all is_value_token) words ∙ calm_tokens relative (all_rows h.grid) (rows_calm relative h.grid h.named);
    }

absent_back : (relative : Bool) → IsBack relative form.Areas refused.Nothing (areas_value None)
absent_back true = record { reads = refl; quiet = refl; tokens = refl }
absent_back false = record { reads = refl; quiet = refl; tokens = refl }

pub areas_told : (relative : Bool) (words : List Word) → Every (IsBack relative form.Areas refused.Nothing) (value_of relative form.Areas words)
areas_told relative words =
    every_map (IsBack relative form.Areas refused.Nothing) areas_value (areas_of words)
    (every_if (λ a. IsBack relative form.Areas refused.Nothing (areas_value a)) (is_alone (codes "none") words) (Some None) (option_map Some (strings_of words)) (λ _. absent_back relative)
    (λ _. every_map (λ a. IsBack relative form.Areas refused.Nothing (areas_value a)) Some (strings_of words)
    (every_bind (λ a. IsBack relative form.Areas refused.Nothing (areas_value (Some a))) HasRead finish (steps start words) (read_told words)
    (λ r h. every_if (λ a. IsBack relative form.Areas refused.Nothing (areas_value (Some a))) (is_whole r) (Some (areas r)) None (λ e. some_back relative r h e) (λ _. tt)))))
