-- Which area has each cell.
use Rattle.std.proofs.Common.{◌≡◌, ℕ, zero, suc, ℤ, pos, negsuc, ◌+◌, ◌-◌, ◌*◌, ◌/◌, ◌%◌, ◌<◌, ◌≤◌, ◌==◌, min, max, Bool, true, false, ◌&&◌, ◌||◌, nat_le, nat_lt, Option, Some, None, is_some, slice_get, int_le, int_lt, unsigned_abs, List, [], ◌∷◌, ◌++◌, length, take, drop, replicate, get_or, set, refl, ap, sym, ◌∙◌, arith, if◌then◌else◌, codes, inl, inr, ◌⊎◌, add-one, drop-cons}
use Rattle.std.proofs.lemmas.Bool.{true≢false, eqb-true, leb-true, leb-false, le-leb, lt-leb, lt-ltb, le-ltb, ltb-true, ltb-false, cases_lt, cases_eq, eq-eqb, ne_eqb}
use Rattle.std.proofs.lemmas.Grind.{get_or-set_at}
use Rattle.std.proofs.lemmas.List.{get_or-set_other, get_or-take, get_or-drop, length-take-le, length-drop}
use Rattle.std.proofs.lemmas.Nat.{div-add-mod', mod_below, div-mul-add, mod-mul-add}
use Rattle.std.proofs.Math.ListN.{length-set}
use Rattle.std.proofs.Math.Nat.{mul-le-mul_right}
use Rattle.std.specs.Option.{unwrap_or}
use Rattle.lunit.specs.declared.geometry.Area.{Area}
use Rattle.lunit.specs.declared.geometry.Span.{Span}
use Rattle.track_text.specs.Words.{Word}
use Rattle.doc_writer.specs.Areas.{Named, is_in, has_cell, cell_word, quote_if, cells_from, row_words, rows_from}
use Rattle.doc_writer.specs.Marks.{mark_from, name_at, mark_word, marks_words, string_words, AreMarks, limited, is_between, SetsRun, SetsArea}
use Rattle.doc_writer.specs.Tracks.{is_empty}

-- ---- a row or column within its limits

start_least : (n most k : ℕ) → k < most → nat_le (min n most) k ≡ nat_le n k
start_least n most k h = by_order (cases_lt k n) where
  by_order : (k < n) ⊎ (n ≤ k) → nat_le (min n most) k ≡ nat_le n k
  by_order (inl above) = lt-leb (min n most) k (omega arith) ∙ sym (lt-leb n k above)
  by_order (inr here) = le-leb (min n most) k (omega arith) ∙ sym (le-leb n k here)

end_least : (n most k : ℕ) → k < most → nat_lt k (min n most) ≡ nat_lt k n
end_least n most k h = by_order (cases_lt k n) where
  by_order : (k < n) ⊎ (n ≤ k) → nat_lt k (min n most) ≡ nat_lt k n
  by_order (inl above) = lt-ltb k (min n most) (omega arith) ∙ sym (lt-ltb k n above)
  by_order (inr here) = le-ltb k (min n most) (omega arith) ∙ sym (le-ltb k n here)

start_limited : (s : ℤ) (most k : ℕ) → k < most → nat_le (limited s most) k ≡ int_le s (pos k)
start_limited (pos n) most k h = ap (λ (b : Bool). nat_le (if b then 0 else min n most) k) (le-ltb n 0 (omega arith)) ∙ start_least n most k h
start_limited (negsuc n) most k h = le-leb 0 k (omega arith)

end_limited : (e : ℤ) (most k : ℕ) → k < most → nat_lt k (limited e most) ≡ int_lt (pos k) e
end_limited (pos n) most k h = ap (λ (b : Bool). nat_lt k (if b then 0 else min n most)) (le-ltb n 0 (omega arith)) ∙ end_least n most k h
end_limited (negsuc n) most k h = le-ltb k 0 (omega arith)

pub in_limits : (span : Span) (most k : ℕ) → k < most → is_between (limited span.start most) (limited span.end most) k ≡ is_in k span
in_limits span most k h = (λ i. start_limited span.start most k h i && end_limited span.end most k h i)

pub few_limited : (n : ℤ) (most : ℕ) → limited n most ≤ most
few_limited n most = by_test (int_lt n (pos 0)) where
  by_test : (b : Bool) → (if b then 0 else min (unsigned_abs n) most) ≤ most
  by_test true = omega arith
  by_test false = omega arith

-- ---- a run of cells

and_false : (b : Bool) → (b && false) ≡ false
and_false true = refl
and_false false = refl

-- a cell in a run of one row
in_run : (c left right row q r : ℕ) → r < c → right ≤ c → is_between (row * c + left) (row * c + right) (q * c + r) ≡ ((q == row) && is_between left right r)
in_run c left right row q r h k = by_order (cases_lt q row) (cases_lt row q) where
  by_order : (q < row) ⊎ (row ≤ q) → (row < q) ⊎ (q ≤ row) → is_between (row * c + left) (row * c + right) (q * c + r) ≡ ((q == row) && is_between left right r)
  by_order (inl below) o =
      let rows : q * c + c ≤ row * c = omega (arith, mul-le-mul_right {m = q + 1} {n = row} c (omega arith), (let e : (q + 1) * c ≡ q * c + c = grind arith in e)) in
      ap (λ (b : Bool). b && nat_lt (q * c + r) (row * c + right)) (lt-leb (row * c + left) (q * c + r) (omega (arith, rows, h)))
      ∙ sym (ap (λ (b : Bool). b && is_between left right r) (ne_eqb q row (λ e. omega (arith, e, below))))
  by_order (inr up) (inl above) =
      let rows : row * c + c ≤ q * c = omega (arith, mul-le-mul_right {m = row + 1} {n = q} c (omega arith), (let e : (row + 1) * c ≡ row * c + c = grind arith in e)) in
      ap (λ (b : Bool). nat_le (row * c + left) (q * c + r) && b) (le-ltb (q * c + r) (row * c + right) (omega (arith, rows, k)))
      ∙ and_false (nat_le (row * c + left) (q * c + r))
      ∙ sym (ap (λ (b : Bool). b && is_between left right r) (ne_eqb q row (λ e. omega (arith, e, above))))
  by_order (inr up) (inr down) =
      let same : q ≡ row = omega (arith, up, down) in
      let rows : q * c ≡ row * c = ap (λ (n : ℕ). n * c) same in
      (λ i. starts (cases_lt r left) rows i && ends (cases_lt r right) rows i)
      ∙ sym (ap (λ (b : Bool). b && is_between left right r) (eq-eqb q row same)) where
        starts : (r < left) ⊎ (left ≤ r) → q * c ≡ row * c → nat_le (row * c + left) (q * c + r) ≡ nat_le left r
        starts (inl under) e = lt-leb (row * c + left) (q * c + r) (omega (arith, e, under)) ∙ sym (lt-leb left r under)
        starts (inr over) e = le-leb (row * c + left) (q * c + r) (omega (arith, e, over)) ∙ sym (le-leb left r over)

        ends : (r < right) ⊎ (right ≤ r) → q * c ≡ row * c → nat_lt (q * c + r) (row * c + right) ≡ nat_lt r right
        ends (inl under) e = lt-ltb (q * c + r) (row * c + right) (omega (arith, e, under)) ∙ sym (lt-ltb r right under)
        ends (inr over) e = le-ltb (q * c + r) (row * c + right) (omega (arith, e, over)) ∙ sym (le-ltb r right over)

one_row_more : (top row q : ℕ) → top ≤ row → is_between top (row + 1) q ≡ (is_between top row q || (q == row))
one_row_more top row q h = by_order (cases_lt q row) (cases_eq q row) where
  by_order : (q < row) ⊎ (row ≤ q) → (q ≡ row) ⊎ (q ≡ row → ⊥) → is_between top (row + 1) q ≡ (is_between top row q || (q == row))
  by_order (inl below) e =
      ap (λ (b : Bool). nat_le top q && b) (lt-ltb q (row + 1) (omega (arith, below)) ∙ sym (lt-ltb q row below))
      ∙ or_false (is_between top row q)
      ∙ ap (λ (b : Bool). is_between top row q || b) (sym (ne_eqb q row (λ e. omega (arith, e, below)))) where
        or_false : (b : Bool) → b ≡ (b || false)
        or_false true = refl
        or_false false = refl
  by_order (inr up) (inl same) =
      (λ i. le-leb top q (omega (arith, h, same)) i && lt-ltb q (row + 1) (omega (arith, same)) i)
      ∙ or_true (is_between top row q)
      ∙ ap (λ (b : Bool). is_between top row q || b) (sym (eq-eqb q row same)) where
        or_true : (b : Bool) → true ≡ (b || true)
        or_true true = refl
        or_true false = refl
  by_order (inr up) (inr other) =
      ap (λ (b : Bool). nat_le top q && b) (le-ltb q (row + 1) (let above : row < q = omega (arith, up, other) in omega (arith, above)) ∙ sym (le-ltb q row up))
      ∙ or_false (is_between top row q)
      ∙ ap (λ (b : Bool). is_between top row q || b) (sym (ne_eqb q row other)) where
        or_false : (b : Bool) → b ≡ (b || false)
        or_false true = refl
        or_false false = refl

-- what a cell has after one row more of an area
marked_by : (e a t : Bool) (mark old : ℕ) → (if e && a then mark else (if t && a then mark else old)) ≡ (if (t || e) && a then mark else old)
marked_by true true true mark old = refl
marked_by true true false mark old = refl
marked_by true false true mark old = refl
marked_by true false false mark old = refl
marked_by false true true mark old = refl
marked_by false true false mark old = refl
marked_by false false true mark old = refl
marked_by false false false mark old = refl

-- the rows of an area from its first up to one have this mark
pub record SetsRows (columns left right top row mark : ℕ) (old new : List ℕ) : Type 0 where
  pub same : length new ≡ length old
  pub each : (k : ℕ) → k < length old → get_or new k 0 ≡ (if is_between top row (k / columns) && is_between left right (k % columns) then mark else get_or old k 0)

none_between : (top q : ℕ) → is_between top top q ≡ false
none_between top q = by_order (cases_lt q top) where
  by_order : (q < top) ⊎ (top ≤ q) → is_between top top q ≡ false
  by_order (inl below) = ap (λ (b : Bool). b && nat_lt q top) (lt-leb top q below)
  by_order (inr here) = ap (λ (b : Bool). nat_le top q && b) (le-ltb q top here) ∙ and_false (nat_le top q)

pub no_rows : (columns left right top mark : ℕ) (old : List ℕ) → SetsRows columns left right top top mark old old
no_rows columns left right top mark old = record {
  same = refl;
  each = λ k h. sym (ap (λ (b : Bool). if b && is_between left right (k % columns) then mark else get_or old k 0) (none_between top (k / columns)));
}

columns_some : (rows columns k n : ℕ) → n ≡ rows * columns → k < n → 0 < columns
columns_some rows zero k n e h = absurd (omega (arith, e, h))
columns_some rows (suc columns) k n e h = omega arith

pub one_row : (rows columns left right top row mark : ℕ) (old cur new : List ℕ) → length old ≡ rows * columns → right ≤ columns → top ≤ row → SetsRows columns left right top row mark old cur → SetsRun (row * columns + left) (row * columns + right) mark cur new
    → SetsRows columns left right top (row + 1) mark old new
one_row rows columns left right top row mark old cur new e few up s r = record {
  same = r.same ∙ s.same;
  each = λ k h.
      let q : ℕ = k / columns in
      let m : ℕ = k % columns in
      let a : Bool = is_between left right m in
      let some : 0 < columns = columns_some rows columns k (length old) e h in
      r.each k (omega (arith, h, s.same))
      ∙ ap (λ (b : Bool). if b then mark else get_or cur k 0) (ap (is_between (row * columns + left) (row * columns + right)) (sym (div-add-mod' k columns)) ∙ in_run columns left right row q m (mod_below k columns some) few)
      ∙ ap (λ (x : ℕ). if (q == row) && a then mark else x) (s.each k h)
      ∙ marked_by (q == row) a (is_between top row q) mark (get_or old k 0)
      ∙ ap (λ (b : Bool). if b && a then mark else get_or old k 0) (sym (one_row_more top row q up));
}

pub room_in_row : (rows columns right row n : ℕ) → n ≡ rows * columns → right ≤ columns → row < rows → row * columns + right ≤ n
room_in_row rows columns right row n e h k = omega (arith, e, h, mul-le-mul_right {m = row + 1} {n = rows} columns (omega (arith, k)), (let p : (row + 1) * columns ≡ row * columns + columns = grind arith in p))

between_rest : (top bottom row q : ℕ) → bottom ≤ row → row ≤ max top bottom → is_between top row q ≡ is_between top bottom q
between_rest top bottom row q h k = by_order (cases_lt q bottom) (cases_lt q row) where
  by_order : (q < bottom) ⊎ (bottom ≤ q) → (q < row) ⊎ (row ≤ q) → is_between top row q ≡ is_between top bottom q
  by_order (inl below) o = ap (λ (b : Bool). nat_le top q && b) (lt-ltb q row (omega (arith, below, h)) ∙ sym (lt-ltb q bottom below))
  by_order (inr above) (inr over) = ap (λ (b : Bool). nat_le top q && b) (le-ltb q row over ∙ sym (le-ltb q bottom above))
  by_order (inr above) (inl under) =
      let none : nat_le top q ≡ false = lt-leb top q (omega (arith, above, under, k)) in
      ap (λ (b : Bool). b && nat_lt q row) none ∙ sym (ap (λ (b : Bool). b && nat_lt q bottom) none)

-- ---- the cells of a run, one after another

pub no_cells : (start mark : ℕ) (old : List ℕ) → SetsRun start start mark old old
no_cells start mark old = record { same = refl; each = λ k h. sym (ap (λ (b : Bool). if b then mark else get_or old k 0) (none_between start k)) }

pub one_cell : (start cell mark : ℕ) (old cur : List ℕ) → start ≤ cell → cell < length cur → SetsRun start cell mark old cur → SetsRun start (cell + 1) mark old (set cur cell mark)
one_cell start cell mark old cur up few s = record {
  same = length-set cur cell mark ∙ s.same;
  each = λ k h. by_cell k h (cases_eq k cell);
} where
  by_cell : (k : ℕ) → k < length old → (k ≡ cell) ⊎ (k ≡ cell → ⊥) → get_or (set cur cell mark) k 0 ≡ (if is_between start (cell + 1) k then mark else get_or old k 0)
  by_cell k h (inl same) =
      get_or-set_at cur cell k mark 0 same few
      ∙ or_true (is_between start cell k)
      ∙ ap (λ (b : Bool). if is_between start cell k || b then mark else get_or old k 0) (sym (eq-eqb k cell same))
      ∙ ap (λ (b : Bool). if b then mark else get_or old k 0) (sym (one_row_more start cell k up)) where
        or_true : (b : Bool) → mark ≡ (if b || true then mark else get_or old k 0)
        or_true true = refl
        or_true false = refl
  by_cell k h (inr other) =
      get_or-set_other cur cell k mark 0 other
      ∙ s.each k h
      ∙ or_false (is_between start cell k)
      ∙ ap (λ (b : Bool). if is_between start cell k || b then mark else get_or old k 0) (sym (ne_eqb k cell other))
      ∙ ap (λ (b : Bool). if b then mark else get_or old k 0) (sym (one_row_more start cell k up)) where
        or_false : (b : Bool) → (if b then mark else get_or old k 0) ≡ (if b || false then mark else get_or old k 0)
        or_false true = refl
        or_false false = refl

pub all_cells : (start end cell mark : ℕ) (old new : List ℕ) → end ≤ cell → cell ≤ max start end → SetsRun start cell mark old new → SetsRun start end mark old new
all_cells start end cell mark old new h k s = record { same = s.same; each = λ j few. s.each j few ∙ ap (λ (b : Bool). if b then mark else get_or old j 0) (between_rest start end cell j h k) }

rows_few : (rows columns k n : ℕ) → n ≡ rows * columns → k < n → 0 < columns → k / columns < rows
rows_few rows columns k n e h some = by_order (cases_lt (k / columns) rows) where
  by_order : (k / columns < rows) ⊎ (rows ≤ k / columns) → k / columns < rows
  by_order (inl few) = few
  by_order (inr many) = absurd (omega (arith, e, h, div-add-mod' k columns, mul-le-mul_right {m = rows} {n = k / columns} columns many))

-- all rows of an area
pub area_set : (rows columns left right top bottom row mark : ℕ) (area : Area) (old new : List ℕ) → length old ≡ rows * columns
    → left ≡ limited area.columns.start columns → right ≡ limited area.columns.end columns → top ≡ limited area.rows.start rows → bottom ≡ limited area.rows.end rows
    → bottom ≤ row → row ≤ max top bottom → SetsRows columns left right top row mark old new → SetsArea columns area mark old new
area_set rows columns left right top bottom row mark area old new e is_left is_right is_top is_bottom low high s = record {
  same = s.same;
  each = λ k h.
      let some : 0 < columns = columns_some rows columns k (length old) e h in
      s.each k h
      ∙ ap (λ (b : Bool). if b && is_between left right (k % columns) then mark else get_or old k 0)
      (between_rest top bottom row (k / columns) low high ∙ (λ i. is_between (is_top i) (is_bottom i) (k / columns)) ∙ in_limits area.rows rows (k / columns) (rows_few rows columns k (length old) e h some))
      ∙ ap (λ (b : Bool). if is_in (k / columns) area.rows && b then mark else get_or old k 0)
      ((λ i. is_between (is_left i) (is_right i) (k % columns)) ∙ in_limits area.columns columns (k % columns) (mod_below k columns some));
}

pub at_most : (r most : ℕ) (n : ℤ) → r ≡ limited n most → r ≤ most
at_most r most n e = omega (arith, e, few_limited n most)

-- ---- all areas

from_index : (named : List Named) (i : ℕ) (d : Named) → i < length named → drop i named ≡ get_or named i d ∷ drop (i + 1) named
from_index named i d h = rw add-one (drop-cons named i d h)

pub marks_more : (columns i : ℕ) (named : List Named) (d : Named) (old new : List ℕ) → i < length named → AreMarks columns (i + 1) (drop (i + 1) named) old → SetsArea columns (get_or named i d).1 (i + 1) old new
    → AreMarks columns i (drop i named) new
marks_more columns i named d old new h a s = record {
  mark = λ k few.
      let in_old : k < length old = omega (arith, few, s.same) in
      s.each k in_old
      ∙ ap (λ (x : ℕ). if has_cell (get_or named i d).1 (k / columns) (k % columns) then i + 1 else x) (a.mark k in_old)
      ∙ sym (ap (λ (areas : List Named). mark_from i areas (k / columns) (k % columns)) (from_index named i d h));
}

get_zero : (n k : ℕ) → ◌≡◌ {A = ℕ} (get_or (replicate n 0) k 0) 0
get_zero zero k = refl
get_zero (suc n) zero = refl
get_zero (suc n) (suc k) = get_zero n k

pub no_marks : (columns n i : ℕ) (named : List Named) → i ≡ length named → AreMarks columns i (drop i named) (replicate n 0)
no_marks columns n i named e = record { mark = λ k few. get_zero n k ∙ sym (ap (λ (areas : List Named). mark_from i areas (k / columns) (k % columns)) (none_left named i e)) } where
  none_left : (named : List Named) (i : ℕ) → i ≡ length named → drop i named ≡ []
  none_left [] zero e = refl
  none_left [] (suc i) e = refl
  none_left (x ∷ named) zero e = absurd (omega (arith, e))
  none_left (x ∷ named) (suc i) e = none_left named i (omega (arith, e))

-- ---- the words of marks

-- what the mark of a cell tells of it
abbrev Found : ℕ → List Named → ℕ → ℕ → Type 0
Found i areas row column =
    ((mark_from i areas row column ≡ 0) × (cell_word areas row column ≡ codes "."))
    ⊎ ((j : ℕ) × (mark_from i areas row column ≡ suc (i + j)) × (name_at areas j ≡ cell_word areas row column))

found : (i : ℕ) (areas : List Named) (row column : ℕ) → Found i areas row column
found i [] row column = inl (refl, refl)
found i (named ∷ areas) row column = by_test (has_cell named.1 row column) (found (i + 1) areas row column) where
  by_test : (b : Bool) → Found (i + 1) areas row column
      → (((if b then i + 1 else mark_from (i + 1) areas row column) ≡ 0) × ((if b then named.0 else cell_word areas row column) ≡ codes "."))
      ⊎ ((j : ℕ) × ((if b then i + 1 else mark_from (i + 1) areas row column) ≡ suc (i + j)) × (name_at (named ∷ areas) j ≡ (if b then named.0 else cell_word areas row column)))
  by_test true f = inr (0, omega arith, refl)
  by_test false (inl none) = inl none
  by_test false (inr one) = inr (suc one.0, one.1 ∙ omega arith, one.2)

word_of_mark : (areas : List Named) (row column : ℕ) → mark_word areas (mark_from 0 areas row column) ≡ cell_word areas row column
word_of_mark areas row column = by_found (found 0 areas row column) where
  by_found : Found 0 areas row column → mark_word areas (mark_from 0 areas row column) ≡ cell_word areas row column
  by_found (inl none) = ap (mark_word areas) none.0 ∙ sym none.1
  by_found (inr one) = ap (mark_word areas) (one.1 ∙ ap suc (let e : 0 + one.0 ≡ one.0 = omega arith in e)) ∙ one.2

-- the marks of a row from a column on
abbrev AreOf : List Named → ℕ → ℕ → List ℕ → Type 0
AreOf areas row column [] = Unit {0}
AreOf areas row column (mark ∷ marks) = (mark ≡ mark_from 0 areas row column) × AreOf areas row (column + 1) marks

last_cell : (marks : List ℕ) → is_empty marks ≡ (length marks == 0)
last_cell [] = refl
last_cell (mark ∷ marks) = sym (ne_eqb (suc (length marks)) 0 (λ e. omega (arith, e)))

cells_are : (opens : Bool) (areas : List Named) (row column : ℕ) (marks : List ℕ) → AreOf areas row column marks → marks_words opens areas marks ≡ cells_from opens areas row column (length marks)
cells_are opens areas row column [] h = refl
cells_are opens areas row column (mark ∷ marks) h =
    ap (λ (word : Word). (quote_if opens ++ (word ++ quote_if (is_empty marks))) ∷ marks_words false areas marks) (ap (mark_word areas) h.0 ∙ word_of_mark areas row column)
    ∙ ap (λ (b : Bool). (quote_if opens ++ (cell_word areas row column ++ quote_if b)) ∷ marks_words false areas marks) (last_cell marks)
    ∙ ap (λ (words : List Word). (quote_if opens ++ (cell_word areas row column ++ quote_if (length marks == 0))) ∷ words) (cells_are false areas row (column + 1) marks h.1)

of_each : (areas : List Named) (row column : ℕ) (marks : List ℕ) → ((j : ℕ) → j < length marks → get_or marks j 0 ≡ mark_from 0 areas row (column + j)) → AreOf areas row column marks
of_each areas row column [] h = tt
of_each areas row column (mark ∷ marks) h =
    let here : column + 0 ≡ column = omega arith in
    let each : (j : ℕ) → j < length marks → get_or marks j 0 ≡ mark_from 0 areas row ((column + 1) + j) =
    λ j few. h (suc j) (omega (arith, few)) ∙ ap (mark_from 0 areas row) (omega arith) in
    (h 0 (omega arith) ∙ ap (mark_from 0 areas row) here, of_each areas row (column + 1) marks each)

-- the words of the marks of a row are those of its cells
pub row_marks : (rows columns row : ℕ) (areas : List Named) (marks : List ℕ) → length marks ≡ rows * columns → AreMarks columns 0 areas marks → row < rows → string_words areas (take columns (drop (row * columns) marks)) ≡ row_words areas columns row
row_marks rows columns row areas marks e a h = by_columns (cases_lt 0 columns) where
  slice : List ℕ
  slice = take columns (drop (row * columns) marks)

  room : row * columns + columns ≤ length marks
  room = omega (arith, e, mul-le-mul_right {m = row + 1} {n = rows} columns (omega (arith, h)), (let p : (row + 1) * columns ≡ row * columns + columns = grind arith in p))

  long : length slice ≡ columns
  long = length-take-le columns (drop (row * columns) marks) (omega (arith, length-drop (row * columns) marks, room))

  each : 0 < columns → (j : ℕ) → j < length slice → get_or slice j 0 ≡ mark_from 0 areas row (0 + j)
  each some j few =
      let in_row : j < columns = omega (arith, few, long) in
      get_or-take columns (drop (row * columns) marks) j 0 in_row
      ∙ get_or-drop (row * columns) marks j 0
      ∙ a.mark (row * columns + j) (omega (arith, room, in_row))
      ∙ (λ i. mark_from 0 areas (div-mul-add row columns j in_row i) (mod-mul-add row columns j in_row i))
      ∙ ap (mark_from 0 areas row) (let p : j ≡ 0 + j = omega arith in p)

  by_columns : (0 < columns) ⊎ (columns ≤ 0) → string_words areas slice ≡ row_words areas columns row
  by_columns (inl some) =
      ap (λ (b : Bool). if b then codes "\"\"" ∷ [] else marks_words true areas slice) (last_cell slice ∙ ap (λ (n : ℕ). n == 0) long)
      ∙ ap (λ (words : List Word). if columns == 0 then codes "\"\"" ∷ [] else words) (cells_are true areas row 0 slice (of_each areas row 0 slice (each some)) ∙ ap (cells_from true areas row 0) long)
  by_columns (inr none) =
      ap (λ (b : Bool). if b then codes "\"\"" ∷ [] else marks_words true areas slice) (last_cell slice ∙ eq-eqb (length slice) 0 (omega (arith, long, none)))
      ∙ sym (ap (λ (b : Bool). if b then codes "\"\"" ∷ [] else cells_from true areas row 0 columns) (eq-eqb columns 0 (omega (arith, none))))

-- ---- rows, one after another

pub mark_found : (named : List Named) (mark : ℕ) (one : Named) → (mark ≡ 0 → ⊥) → true ≡ nat_lt (mark - 1) (length named) → one ≡ get_or named (mark - 1) one → one.0 ≡ mark_word named mark
mark_found named zero one h few e = absurd (h refl)
mark_found named (suc index) one h few e =
    let n : suc index - 1 ≡ index = omega arith in
    at_index named index (ltb-true index (length named) (sym (few ∙ ap (λ (k : ℕ). nat_lt k (length named)) n))) (e ∙ ap (λ (k : ℕ). get_or named k one) n) where
      at_index : (named : List Named) (index : ℕ) → index < length named → one ≡ get_or named index one → one.0 ≡ name_at named index
      at_index [] index few e = absurd (omega (arith, few))
      at_index (x ∷ named) zero few e = ap (λ (o : Named). o.0) e
      at_index (x ∷ named) (suc index) few e = at_index named index (omega (arith, few)) e

pub mark_missing : (named : List Named) (mark : ℕ) → (mark ≡ 0 → ⊥) → false ≡ nat_lt (mark - 1) (length named) → codes "." ≡ mark_word named mark
mark_missing named zero h none = absurd (h refl)
mark_missing named (suc index) h none =
    let n : suc index - 1 ≡ index = omega arith in
    at_index named index (ltb-false index (length named) (sym (none ∙ ap (λ (k : ℕ). nat_lt k (length named)) n))) where
      at_index : (named : List Named) (index : ℕ) → length named ≤ index → codes "." ≡ name_at named index
      at_index [] index many = refl
      at_index (x ∷ named) zero many = absurd (omega (arith, many))
      at_index (x ∷ named) (suc index) many = at_index named index (omega (arith, many))

pub no_cells_left : (opens : Bool) (areas : List Named) (marks : List ℕ) → length marks ≡ 0 → marks_words opens areas marks ≡ []
no_cells_left opens areas [] e = refl
no_cells_left opens areas (mark ∷ marks) e = absurd (omega (arith, e))

pub rows_next : (areas : List Named) (columns row rows : ℕ) → row < rows → rows_from areas columns row (rows - row) ≡ row_words areas columns row ++ rows_from areas columns (row + 1) (rows - (row + 1))
rows_next areas columns row rows h = ap (rows_from areas columns row) (let n : rows - row ≡ suc (rows - (row + 1)) = omega (arith, h) in n)

pub rows_last : (areas : List Named) (columns row rows : ℕ) → rows ≤ row → rows_from areas columns row (rows - row) ≡ []
rows_last areas columns row rows h = ap (rows_from areas columns row) (let n : rows - row ≡ 0 = omega (arith, h) in n)

pub ruleset runs = (no_cells, one_cell, all_cells)
