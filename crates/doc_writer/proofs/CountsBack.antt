-- The names of the cells of a grid against their rectangles.
use Rattle.std.proofs.Common.{◌≡◌, ℕ, ◌+◌, ◌-◌, ◌*◌, ◌≤◌, max, Bool, true, false, ◌&&◌, ◌||◌, nat_le, List, [], ◌∷◌, ◌++◌, refl, ap, sym, subst, ◌∙◌, arith, if◌then◌else◌, Some, None}
use Rattle.std.specs.Prelude.{⊤}
use Rattle.std.specs.List.{list_any}
use Rattle.std.specs.Str.{bytes_eq}
use Rattle.std.proofs.lemmas.Bool.{and_parts, and_from, true≢false, eqb-true, or_parts, or_from, leb-true, le-leb, false_from_ne_true, and_left}
use Rattle.std.proofs.lemmas.Slice.Eq.{bytes_eq-Decides}
use Rattle.std.proofs.Math.Nat.{add-mul, mul-le-mul_right}
use Rattle.track_text.specs.Words.{Word}
use Rattle.value_text.specs.declared.found.Found.{Found}
use Rattle.value_text.specs.AreaText.{is_filled, new_found, with_cell, add_cell}
use Rattle.doc_writer.proofs.SidesBack.{AllHold, both_hold}
use Rattle.doc_writer.proofs.GridsBack.{Cell, Placed, placed, row_cells, grid_cells, put_cell, found_of}

-- ---- names

same_name : (a b : Word) → bytes_eq a b ≡ true → a ≡ b
same_name a b h = (bytes_eq-Decides a b).0 h

pub itself : (a : Word) → bytes_eq a a ≡ true
itself a = (bytes_eq-Decides a a).1 refl

other_name : (a b : Word) → bytes_eq a b ≡ false → bytes_eq b a ≡ false
other_name a b h = false_from_ne_true (bytes_eq b a) (λ e. true≢false (sym (itself a) ∙ ap (bytes_eq a) (sym (same_name b a e)) ∙ h))

abbrev pub named_by : Word → Cell → Bool
named_by name None = false
named_by name (Some other) = bytes_eq other name

abbrev pub is_named : Word → Placed → Bool
is_named name p = named_by name p.cell

abbrev pub one_if : Bool → ℕ
one_if true = 1
one_if false = 0

-- how many of the cells pass
abbrev pub tally : (Placed → Bool) → List Placed → ℕ
tally test [] = 0
tally test (p ∷ cells) = one_if (test p) + tally test cells

tally-append : (test : Placed → Bool) (xs ys : List Placed) → tally test (xs ++ ys) ≡ tally test xs + tally test ys
tally-append test [] ys = omega arith
tally-append test (p ∷ xs) ys = omega (arith, tally-append test xs ys)

none_by : (b : Bool) (n : ℕ) → one_if b + n ≡ 0 → (b ≡ false) × (n ≡ 0)
none_by true n h = absurd (omega (arith, h))
none_by false n h = (refl, omega (arith, h))

none_pass : (test : Placed → Bool) (cells : List Placed) → tally test cells ≡ 0 → AllHold (λ p. test p ≡ false) cells
none_pass test [] h = tt
none_pass test (p ∷ cells) h = let parts = none_by (test p) (tally test cells) h in (parts.0, none_pass test cells parts.1)

-- the cell stands in the rectangle of the name
pub record InBox (f : Found) (p : Placed) : Type 0 where
  pub top : f.top ≤ p.row
  pub bottom : p.row ≤ f.bottom
  pub left : f.left ≤ p.column
  pub right : p.column ≤ f.right

abbrev pub in_box : Found → Placed → Bool
in_box f p = (nat_le f.top p.row && nat_le p.row f.bottom) && (nat_le f.left p.column && nat_le p.column f.right)

boxed : (f : Found) (p : Placed) → InBox f p → in_box f p ≡ true
boxed f p b =
    and_from (nat_le f.top p.row && nat_le p.row f.bottom) (nat_le f.left p.column && nat_le p.column f.right)
    (and_from (nat_le f.top p.row) (nat_le p.row f.bottom) (le-leb f.top p.row b.top) (le-leb p.row f.bottom b.bottom))
    (and_from (nat_le f.left p.column) (nat_le p.column f.right) (le-leb f.left p.column b.left) (le-leb p.column f.right b.right))

-- ---- what is found of cells

abbrev Within : Found → List Placed → Type 0
Within f cells = AllHold (λ p. is_named f.name p ≡ true → InBox f p) cells

-- what is found of a name is that of the cells so far, the last of which stands in this row
pub record IsFoundOf (row : ℕ) (cells : List Placed) (f : Found) : Type 0 where
  pub count : f.cells ≡ tally (is_named f.name) cells
  pub within : Within f cells
  pub above : f.top ≤ row

abbrev pub has_name : List Found → Word → Bool
has_name found name = list_any (λ f. bytes_eq f.name name) found

abbrev AreDistinct : List Found → Type 0
AreDistinct [] = ⊤
AreDistinct (f ∷ found) = (has_name found f.name ≡ false) × AreDistinct found

abbrev AreAbove : ℕ → List Placed → Type 0
AreAbove row cells = AllHold (λ p. p.row ≤ row) cells

pub record AreFound (row : ℕ) (cells : List Placed) (found : List Found) : Type 0 where
  pub each : AllHold (IsFoundOf row cells) found
  pub distinct : AreDistinct found
  pub all : (name : Word) → has_name found name ≡ false → tally (is_named name) cells ≡ 0
  pub rows : AreAbove row cells

-- ---- one cell more

widen : (f g : Found) (cells : List Placed) → f.name ≡ g.name → ((p : Placed) → p.row ≤ g.bottom → InBox f p → InBox g p) → (row : ℕ) → row ≤ g.bottom → AreAbove row cells → Within f cells → Within g cells
widen f g [] n w row r a h = tt
widen f g (p ∷ cells) n w row r a h =
    ((λ e. w p (let low : p.row ≤ row = a.0 in omega (arith, low, r)) (h.0 (ap (λ (name : Word). is_named name p) n ∙ e))), widen f g cells n w row r a.1 h.1)

lower : (row more : ℕ) (cells : List Placed) → row ≤ more → AreAbove row cells → AreAbove more cells
lower row more [] h a = tt
lower row more (p ∷ cells) h a = ((let low : p.row ≤ row = a.0 in omega (arith, low, h)), lower row more cells h a.1)

-- a cell that does not have the name changes nothing
other_kept : (row more : ℕ) (cells : List Placed) (f : Found) (p : Placed) → row ≤ more → is_named f.name p ≡ false → IsFoundOf row cells f → IsFoundOf more (cells ++ p ∷ []) f
other_kept row more cells f p h n g = record {
  count = g.count ∙ sym (tally-append (is_named f.name) cells (p ∷ []) ∙ ap (λ (b : Bool). tally (is_named f.name) cells + (one_if b + 0)) n ∙ (let e : tally (is_named f.name) cells + (0 + 0) ≡ tally (is_named f.name) cells = omega arith in e));
  within = both_hold (λ p. is_named f.name p ≡ true → InBox f p) cells (p ∷ []) g.within ((λ e. absurd (true≢false (sym e ∙ n))), tt);
  above = let low : f.top ≤ row = g.above in omega (arith, low, h);
}

others_kept : (row more : ℕ) (cells : List Placed) (found : List Found) (name : Word) (p : Placed) → row ≤ more → p.cell ≡ Some name → has_name found name ≡ false → AllHold (IsFoundOf row cells) found → AllHold (IsFoundOf more (cells ++ p ∷ [])) found
others_kept row more cells [] name p h c n g = tt
others_kept row more cells (f ∷ found) name p h c n g =
    let parts = or_parts (bytes_eq f.name name) (has_name found name) n in
    (other_kept row more cells f p h (ap (named_by f.name) c ∙ other_name f.name name parts.0) g.0, others_kept row more cells found name p h c parts.1 g.1)

nameless_kept : (row more : ℕ) (cells : List Placed) (found : List Found) (p : Placed) → row ≤ more → p.cell ≡ None → AllHold (IsFoundOf row cells) found → AllHold (IsFoundOf more (cells ++ p ∷ [])) found
nameless_kept row more cells [] p h c g = tt
nameless_kept row more cells (f ∷ found) p h c g = (other_kept row more cells f p h (ap (named_by f.name) c) g.0, nameless_kept row more cells found p h c g.1)

-- the first cell of a name
first_of_name : (row more : ℕ) (cells : List Placed) (name : Word) (p : Placed) → p.row ≡ more → p.cell ≡ Some name → tally (is_named name) cells ≡ 0 → IsFoundOf more (cells ++ p ∷ []) (new_found name p.row p.column)
first_of_name row more cells name p r c none = record {
  count = sym (tally-append (is_named name) cells (p ∷ []) ∙ ap (λ (b : Bool). tally (is_named name) cells + (one_if b + 0)) (ap (named_by name) c ∙ itself name) ∙ omega (arith, none));
  within = both_hold (λ q. is_named name q ≡ true → InBox f q) cells (p ∷ []) (never cells (none_pass (is_named name) cells none)) ((λ e. record { top = omega arith; bottom = omega arith; left = omega arith; right = omega arith }), tt);
  above = omega (arith, r);
} where
  f : Found
  f = new_found name p.row p.column

  never : (qs : List Placed) → AllHold (λ q. is_named name q ≡ false) qs → AllHold (λ q. is_named name q ≡ true → InBox f q) qs
  never [] h = tt
  never (q ∷ qs) h = ((λ e. absurd (true≢false (sym e ∙ h.0))), never qs h.1)

-- a further cell of a name
more_of_name : (row : ℕ) (cells : List Placed) (f : Found) (p : Placed) → row ≤ p.row → AreAbove row cells → p.cell ≡ Some f.name → IsFoundOf row cells f → IsFoundOf p.row (cells ++ p ∷ []) (with_cell f p.row p.column)
more_of_name row cells f p h a c g = record {
  count = sym (tally-append (is_named f.name) cells (p ∷ []) ∙ ap (λ (b : Bool). tally (is_named f.name) cells + (one_if b + 0)) (ap (named_by f.name) c ∙ itself f.name) ∙ omega (arith, g.count));
  within = both_hold (λ q. is_named f.name q ≡ true → InBox (with_cell f p.row p.column) q) cells (p ∷ [])
      (widen f (with_cell f p.row p.column) cells refl (λ q low b. record { top = b.top; bottom = low; left = omega (arith, b.left); right = omega (arith, b.right) }) row h a g.within)
      ((λ e. record { top = omega (arith, g.above, h); bottom = omega arith; left = omega arith; right = omega arith }), tt);
  above = omega (arith, g.above, h);
}

each_added : (row : ℕ) (cells : List Placed) (found : List Found) (name : Word) (p : Placed) → row ≤ p.row → AreAbove row cells → p.cell ≡ Some name → AreDistinct found → (has_name found name ≡ false → tally (is_named name) cells ≡ 0)
    → AllHold (IsFoundOf row cells) found → AllHold (IsFoundOf p.row (cells ++ p ∷ [])) (add_cell found name p.row p.column)
each_added row cells [] name p h a c d none g = (first_of_name row p.row cells name p refl c (none refl), tt)
each_added row cells (f ∷ found) name p h a c d none g = by_name (bytes_eq f.name name) refl (λ n. each_added row cells found name p h a c d.1 (λ e. none (or_from (bytes_eq f.name name) (has_name found name) n e)) g.1) where
  by_name : (b : Bool) → bytes_eq f.name name ≡ b → (bytes_eq f.name name ≡ false → AllHold (IsFoundOf p.row (cells ++ p ∷ [])) (add_cell found name p.row p.column))
      → AllHold (IsFoundOf p.row (cells ++ p ∷ [])) (if b then with_cell f p.row p.column ∷ found else f ∷ add_cell found name p.row p.column)
  by_name true e more =
      let same : f.name ≡ name = same_name f.name name e in
      (more_of_name row cells f p h a (c ∙ ap Some (sym same)) g.0, others_kept row p.row cells found name p h c (ap (has_name found) (sym same) ∙ d.0) g.1)
  by_name false e more = (other_kept row p.row cells f p h (ap (named_by f.name) c ∙ other_name f.name name e) g.0, more e)

names_added : (found : List Found) (name other : Word) (row column : ℕ) → has_name (add_cell found name row column) other ≡ (has_name found other || bytes_eq name other)
names_added [] name other row column = or_nothing (bytes_eq name other) where
  or_nothing : (b : Bool) → (b || false) ≡ b
  or_nothing true = refl
  or_nothing false = refl
names_added (f ∷ found) name other row column = by_name (bytes_eq f.name name) refl (names_added found name other row column) where
  absorbed : (a b : Bool) → (a || b) ≡ ((a || b) || a)
  absorbed true b = refl
  absorbed false true = refl
  absorbed false false = refl

  joined : (a b c x : Bool) → x ≡ (b || c) → (a || x) ≡ ((a || b) || c)
  joined true b c x e = refl
  joined false b c x e = e

  by_name : (b : Bool) → bytes_eq f.name name ≡ b → has_name (add_cell found name row column) other ≡ (has_name found other || bytes_eq name other)
      → has_name (if b then with_cell f row column ∷ found else f ∷ add_cell found name row column) other ≡ ((bytes_eq f.name other || has_name found other) || bytes_eq name other)
  by_name true e more = absorbed (bytes_eq f.name other) (has_name found other) ∙ ap (λ (n : Word). (bytes_eq f.name other || has_name found other) || bytes_eq n other) (same_name f.name name e)
  by_name false e more = joined (bytes_eq f.name other) (has_name found other) (bytes_eq name other) (has_name (add_cell found name row column) other) more

distinct_added : (found : List Found) (name : Word) (row column : ℕ) → AreDistinct found → AreDistinct (add_cell found name row column)
distinct_added [] name row column d = (refl, tt)
distinct_added (f ∷ found) name row column d = by_name (bytes_eq f.name name) refl (distinct_added found name row column d.1) where
  by_name : (b : Bool) → bytes_eq f.name name ≡ b → AreDistinct (add_cell found name row column) → AreDistinct (if b then with_cell f row column ∷ found else f ∷ add_cell found name row column)
  by_name true e more = d
  by_name false e more = (names_added found name f.name row column ∙ or_from (has_name found f.name) (bytes_eq name f.name) d.0 (other_name f.name name e), more)

above_added : (row : ℕ) (cells : List Placed) (p : Placed) → row ≤ p.row → AreAbove row cells → AreAbove p.row (cells ++ p ∷ [])
above_added row cells p h a = both_hold (λ q. q.row ≤ p.row) cells (p ∷ []) (lower row p.row cells h a) ((omega arith), tt)

one_added : (row : ℕ) (cells : List Placed) (found : List Found) (p : Placed) → row ≤ p.row → AreFound row cells found → AreFound p.row (cells ++ p ∷ []) (put_cell found p)
one_added row cells found p h g = by_cell p.cell refl where
  test_more : (name : Word) (b : Bool) → is_named name p ≡ b → tally (is_named name) (cells ++ p ∷ []) ≡ tally (is_named name) cells + one_if b
  test_more name b e = tally-append (is_named name) cells (p ∷ []) ∙ ap (λ (b : Bool). tally (is_named name) cells + (one_if b + 0)) e ∙ omega arith

  by_cell : (c : Cell) → p.cell ≡ c → AreFound p.row (cells ++ p ∷ []) (elim c [ None ↦ found | Some name ↦ add_cell found name p.row p.column ])
  by_cell None e = record {
    each = nameless_kept row p.row cells found p h e g.each;
    distinct = g.distinct;
    all = λ name n. test_more name false (ap (named_by name) e) ∙ omega (arith, g.all name n);
    rows = above_added row cells p h g.rows;
  }
  by_cell (Some name) e = record {
    each = each_added row cells found name p h g.rows e g.distinct (g.all name) g.each;
    distinct = distinct_added found name p.row p.column g.distinct;
    all = λ other n. let parts = or_parts (has_name found other) (bytes_eq name other) (sym (names_added found name other p.row p.column) ∙ n) in test_more other false (ap (named_by other) e ∙ parts.1) ∙ omega (arith, g.all other parts.0);
    rows = above_added row cells p h g.rows;
  }

-- ---- all cells of a grid

-- rows do not fall
abbrev Rising : ℕ → List Placed → Type 0
Rising row [] = ⊤
Rising row (p ∷ cells) = (row ≤ p.row) × Rising p.row cells

-- some row is the last
pub record AllFound (cells : List Placed) (found : List Found) : Type 0 where
  pub row : ℕ
  pub are : AreFound row cells found

append_one : (xs ys : List Placed) (p : Placed) → (xs ++ p ∷ []) ++ ys ≡ xs ++ p ∷ ys
append_one [] ys p = refl
append_one (x ∷ xs) ys p = ap (λ (zs : List Placed). x ∷ zs) (append_one xs ys p)

all_added : (row : ℕ) (cells more : List Placed) (found : List Found) → Rising row more → AreFound row cells found → AllFound (cells ++ more) (found_of found more)
all_added row cells [] found r g = subst (λ (ps : List Placed). AllFound ps found) (sym (append_nothing cells)) (record { row = row; are = g }) where
  append_nothing : (xs : List Placed) → xs ++ [] ≡ xs
  append_nothing [] = refl
  append_nothing (x ∷ xs) = ap (λ (zs : List Placed). x ∷ zs) (append_nothing xs)
all_added row cells (p ∷ more) found r g =
    subst (λ (ps : List Placed). AllFound ps (found_of (put_cell found p) more)) (append_one cells more p)
    (all_added p.row (cells ++ p ∷ []) more (put_cell found p) r.1 (one_added row cells found p r.0 g))

rising_from : (low high : ℕ) (cells : List Placed) → low ≤ high → Rising high cells → Rising low cells
rising_from low high [] h r = tt
rising_from low high (p ∷ cells) h r = ((let first : high ≤ p.row = r.0 in omega (arith, h, first)), r.1)

rising_then : (row column : ℕ) (cells : List Cell) (more : List Placed) → Rising row more → Rising row (row_cells row column cells ++ more)
rising_then row column [] more r = r
rising_then row column (c ∷ cells) more r = (omega arith, rising_then row (column + 1) cells more r)

grid_rising : (row : ℕ) (rows : List (List Cell)) → Rising row (grid_cells row rows)
grid_rising row [] = tt
grid_rising row (cells ∷ rows) = rising_then row 0 cells (grid_cells (row + 1) rows) (rising_from row (row + 1) (grid_cells (row + 1) rows) (omega arith) (grid_rising (row + 1) rows))

nothing_found : AreFound 0 [] []
nothing_found = record { each = tt; distinct = tt; all = λ name n. refl; rows = tt }

pub grid_found : (rows : List (List Cell)) → AllFound (grid_cells 0 rows) (found_of [] (grid_cells 0 rows))
grid_found rows = all_added 0 [] (grid_cells 0 rows) [] (grid_rising 0 rows) nothing_found

-- ---- a rectangle has no more cells than its sides say

row_few : (f : Found) (row column : ℕ) (cells : List Cell) → tally (in_box f) (row_cells row column cells) ≤ (f.right + 1) - max f.left column
row_few f row column [] = omega arith
row_few f row column (c ∷ cells) = by_test (in_box f (placed row column c)) refl (row_few f row (column + 1) cells) where
  by_test : (b : Bool) → in_box f (placed row column c) ≡ b → tally (in_box f) (row_cells row (column + 1) cells) ≤ (f.right + 1) - max f.left (column + 1)
      → one_if b + tally (in_box f) (row_cells row (column + 1) cells) ≤ (f.right + 1) - max f.left column
  by_test true e h =
      let sides = and_parts (nat_le f.left column) (nat_le column f.right) (and_parts (nat_le f.top row && nat_le row f.bottom) (nat_le f.left column && nat_le column f.right) e).1 in
      omega (arith, h, leb-true f.left column sides.0, leb-true column f.right sides.1)
  by_test false e h = omega (arith, h)

row_none : (f : Found) (row column : ℕ) (cells : List Cell) → (nat_le f.top row && nat_le row f.bottom) ≡ false → tally (in_box f) (row_cells row column cells) ≡ 0
row_none f row column [] e = refl
row_none f row column (c ∷ cells) e =
    ap (λ (b : Bool). one_if b + tally (in_box f) (row_cells row (column + 1) cells)) (and_left (nat_le f.top row && nat_le row f.bottom) (nat_le f.left column && nat_le column f.right) e)
    ∙ omega (arith, row_none f row (column + 1) cells e)

abbrev width : Found → ℕ
width f = f.right + 1 - f.left

one_row : (n rest w a b : ℕ) → n ≤ w → rest ≤ a * w → b ≡ a + 1 → n + rest ≤ b * w
one_row n rest w a b h k e = omega (arith, h, k, ap (λ (m : ℕ). m * w) e, add-mul a 1 w)

fewer_rows : (w a b : ℕ) → a ≤ b → a * w ≤ b * w
fewer_rows w a b h = mul-le-mul_right {m = a} {n = b} w h

grid_few : (f : Found) (row : ℕ) (rows : List (List Cell)) → tally (in_box f) (grid_cells row rows) ≤ ((f.bottom + 1) - max f.top row) * width f
grid_few f row [] = omega arith
grid_few f row (cells ∷ rows) = by_test (nat_le f.top row && nat_le row f.bottom) refl (grid_few f (row + 1) rows) where
  here : List Placed
  here = row_cells row 0 cells

  after : List Placed
  after = grid_cells (row + 1) rows

  by_test : (b : Bool) → (nat_le f.top row && nat_le row f.bottom) ≡ b → tally (in_box f) after ≤ ((f.bottom + 1) - max f.top (row + 1)) * width f → tally (in_box f) (here ++ after) ≤ ((f.bottom + 1) - max f.top row) * width f
  by_test true e h =
      let sides = and_parts (nat_le f.top row) (nat_le row f.bottom) e in
      let top : f.top ≤ row = leb-true f.top row sides.0 in
      let bottom : row ≤ f.bottom = leb-true row f.bottom sides.1 in
      let few : tally (in_box f) here ≤ width f = omega (arith, row_few f row 0 cells) in
      let all : tally (in_box f) here + tally (in_box f) after ≤ ((f.bottom + 1) - max f.top row) * width f =
      one_row (tally (in_box f) here) (tally (in_box f) after) (width f) ((f.bottom + 1) - max f.top (row + 1)) ((f.bottom + 1) - max f.top row) few h (omega (arith, top, bottom)) in
      omega (arith, all, tally-append (in_box f) here after)
  by_test false e h =
      let fewer : ((f.bottom + 1) - max f.top (row + 1)) * width f ≤ ((f.bottom + 1) - max f.top row) * width f = fewer_rows (width f) ((f.bottom + 1) - max f.top (row + 1)) ((f.bottom + 1) - max f.top row) (omega arith) in
      omega (arith, h, fewer, row_none f row 0 cells e, tally-append (in_box f) here after)

-- ---- a rectangle that is filled has no other cell

if_less : (a r : Bool) → (a ≡ true → r ≡ true) → one_if a ≤ one_if r
if_less true r h = ap_le (h refl) where
  ap_le : r ≡ true → 1 ≤ one_if r
  ap_le e = subst (λ (b : Bool). 1 ≤ one_if b) (sym e) (omega arith)
if_less false r h = omega arith

fewer_pass : (a r : Placed → Bool) (cells : List Placed) → AllHold (λ p. a p ≡ true → r p ≡ true) cells → tally a cells ≤ tally r cells
fewer_pass a r [] h = omega arith
fewer_pass a r (p ∷ cells) h = omega (arith, if_less (a p) (r p) h.0, fewer_pass a r cells h.1)

both_tight : (a r : Bool) (n m : ℕ) → (a ≡ true → r ≡ true) → n ≤ m → one_if r + m ≤ one_if a + n → (r ≡ true → a ≡ true) × (m ≤ n)
both_tight true true n m i h k = ((λ e. refl), omega (arith, k))
both_tight true false n m i h k = absurd (true≢false (sym (i refl)))
both_tight false true n m i h k = absurd (omega (arith, h, k))
both_tight false false n m i h k = ((λ e. e), omega (arith, k))

-- where the cells that pass the weaker test are no more, they pass the other
tight : (a r : Placed → Bool) (cells : List Placed) → AllHold (λ p. a p ≡ true → r p ≡ true) cells → tally r cells ≤ tally a cells → AllHold (λ p. r p ≡ true → a p ≡ true) cells
tight a r [] h k = tt
tight a r (p ∷ cells) h k =
    let parts : (r p ≡ true → a p ≡ true) × (tally r cells ≤ tally a cells) = both_tight (a p) (r p) (tally a cells) (tally r cells) h.0 (fewer_pass a r cells h.1) k in
    (parts.0, tight a r cells h.1 parts.1)

pub all_boxed : (f : Found) (cells : List Placed) → Within f cells → AllHold (λ p. is_named f.name p ≡ true → in_box f p ≡ true) cells
all_boxed f [] h = tt
all_boxed f (p ∷ cells) h = ((λ e. boxed f p (h.0 e)), all_boxed f cells h.1)

-- the cells in the rectangle of a name that fills it all have the name
pub filled_by : (row : ℕ) (rows : List (List Cell)) (f : Found) → IsFoundOf row (grid_cells 0 rows) f → is_filled f ≡ true → AllHold (λ p. in_box f p ≡ true → is_named f.name p ≡ true) (grid_cells 0 rows)
filled_by row rows f g e =
    let area : f.cells ≡ (f.bottom + 1 - f.top) * width f = eqb-true f.cells ((f.bottom + 1 - f.top) * width f) e in
    let top : max f.top 0 ≡ f.top = omega arith in
    let few : tally (in_box f) (grid_cells 0 rows) ≤ (f.bottom + 1 - f.top) * width f = subst (λ (n : ℕ). tally (in_box f) (grid_cells 0 rows) ≤ ((f.bottom + 1) - n) * width f) top (grid_few f 0 rows) in
    tight (is_named f.name) (in_box f) (grid_cells 0 rows) (all_boxed f (grid_cells 0 rows) g.within) (omega (arith, few, area, g.count))
