-- The areas that items get have at least one cell.
use Rattle.std.proofs.Common.{◌≡◌, refl, sym, ap, ◌∙◌, arith, subst, ℕ, suc, ◌≤◌, ℤ, pos, ◌+ℤ◌, ◌≤ℤ◌, ◌<ℤ◌, int_lt, int_le, Bool, true, false, ◌&&◌, List, [], ◌∷◌, ◌++◌, length, map, Option, Some, None, if◌then◌else◌}
use Rattle.std.specs.Prelude.{IsTrue, option_to_list, unwrap_or}
use Rattle.std.proofs.lemmas.Int.{ints}
use Rattle.std.proofs.lemmas.Bool.{le-leb}
use Rattle.std.proofs.lemmas.List.{length-map}
use Rattle.grid_placement.specs.Wishes.{is_within, is_placeable, are_placeable}
use Rattle.lunit.specs.declared.geometry.Area.{Area}
use Rattle.lunit.specs.declared.geometry.Spot.{Spot}
use Rattle.lunit.specs.declared.geometry.Spot.TheVariants.{At, Free}
use Rattle.part_rules.specs.declared.wish.Wish.{Wish}
use Rattle.part_rules.specs.declared.wish.Shape.{Shape}
use Rattle.part_rules.specs.Placement.{Entry, Field, Position, areas_of, begun, columns_for, cursor_after, first_row, next_area, no_area, placed, placed_by_rows, rest_placed, row_area, rows_placed, turned_area, turned_wish, with_area}
use Rattle.placing.proofs.Each.{Each}
use Rattle.placing.specs.Insides.{AreFilled, AreFull, IsFilled, IsFull}

-- ---- the conditions of placement

lt_true : (a b : ℤ) → a <ℤ b → int_lt a b ≡ true
lt_true a b h = go (int_lt a b) refl
  where
    go : (t : Bool) → int_lt a b ≡ t → t ≡ true
    go true e = refl
    go false e = absurd (omega (arith, ints))

le_true : (a b : ℤ) → a ≤ℤ b → int_le a b ≡ true
le_true a b h = go (int_le a b) refl
  where
    go : (t : Bool) → int_le a b ≡ t → t ≡ true
    go true e = refl
    go false e = absurd (omega (arith, ints))

both_true : (a b : Bool) → a ≡ true → b ≡ true → (a && b) ≡ true
both_true a b p q = ap (λ x. x && b) p ∙ q

within : (p : Spot) → IsFilled p → is_within p ≡ true
within (At s) h = both_true (int_lt s.start s.end) (int_le s.end (pos 20000)) (lt_true s.start s.end h.0) (le_true s.end (pos 20000) h.1)
within (Free k) h = le-leb k 20000 h.1

pub placeable : (ws : List Wish) → AreFilled ws → IsTrue (are_placeable ws)
placeable [] h = refl
placeable (w ∷ ws) h = both_true (is_placeable w) (are_placeable ws) (both_true (is_within w.column) (is_within w.row) (within w.column h.0.0) (within w.row h.0.1)) (placeable ws h.1)

-- ---- each entry once its step is done

abbrev IsMade : Option Area → Type 0
IsMade None = Unit {0}
IsMade (Some a) = IsFull a

-- an item with a definite row has its area
abbrev HasRow : Spot → Option Area → Type 0
HasRow (At r) None = ⊥
HasRow (At r) (Some a) = IsFull a
HasRow (Free l) o = IsMade o

abbrev AfterRows : Entry → Type 0
AfterRows e = (IsFilled e.wish.column × IsFilled e.wish.row) × HasRow e.wish.row e.area

some_tracks : (x : ℤ) (k : ℕ) → 1 ≤ k → x <ℤ (x +ℤ pos k)
some_tracks x k h = omega (arith, ints)

one_in_rows : (dense : Bool) (held mine : List Area) (column row : Spot) → IsFilled column → IsFilled row
    → AfterRows (with_area (begun (record { column = column; row = row })) (row_area dense held mine column row))
one_in_rows dense held mine (At c) (At r) p q = ((p, q), record { columns = p.0; rows = q.0 })
one_in_rows dense held mine (Free k) (At r) p q = ((p, q), record { columns = some_tracks _ k p.0; rows = q.0 })
one_in_rows dense held mine (At c) (Free l) p q = ((p, q), tt)
one_in_rows dense held mine (Free k) (Free l) p q = ((p, q), tt)

rows_full : (dense : Bool) (held mine : List Area) (ws : List Wish) → AreFilled ws → Each AfterRows (rows_placed dense held mine (map begun ws))
rows_full dense held mine [] h = tt
rows_full dense held mine (w ∷ ws) h =
    let area = row_area dense held mine w.column w.row in
    (one_in_rows dense held mine w.column w.row h.0.0 h.0.1, rows_full dense (held ++ option_to_list area) (mine ++ option_to_list area) ws h.1)

abbrev HasArea : Entry → Type 0
HasArea e = IsFull (unwrap_or e.area no_area)

one_left : (f : Field) (held : List Area) (cursor : Position) (column row : Spot) (area : Option Area) → IsFilled column → IsFilled row → HasRow row area
    → HasArea (with_area (record { wish = record { column = column; row = row }; area = area }) (next_area f held cursor column row))
one_left f held cursor (At c) (At r) None p q h = absurd h
one_left f held cursor (At c) (At r) (Some a) p q h = h
one_left f held cursor (Free k) (At r) None p q h = absurd h
one_left f held cursor (Free k) (At r) (Some a) p q h = h
one_left f held cursor (At c) (Free l) area p q h = record { columns = p.0; rows = some_tracks _ l q.0 }
one_left f held cursor (Free k) (Free l) area p q h = record { columns = some_tracks _ k p.0; rows = some_tracks _ l q.0 }

rest_full : (f : Field) (held : List Area) (cursor : Position) (es : List Entry) → Each AfterRows es → Each HasArea (rest_placed f held cursor es)
rest_full f held cursor [] h = tt
rest_full f held cursor (e ∷ es) h =
    let area = next_area f held cursor e.wish.column e.wish.row in
    (one_left f held cursor e.wish.column e.wish.row e.area h.0.0.0 h.0.0.1 h.0.1, rest_full f (held ++ option_to_list area) (cursor_after cursor area) es h.1)

all_areas : (es : List Entry) → Each HasArea es → AreFull (map (λ (e : Entry). unwrap_or e.area no_area) es)
all_areas [] h = tt
all_areas (e ∷ es) h = (h.0, all_areas es h.1)

by_rows_full : (columns rows : ℕ) (dense : Bool) (ws : List Wish) → AreFilled ws → AreFull (placed_by_rows columns rows dense ws)
unfolding placed_by_rows
by_rows_full columns rows dense ws h =
    let both = map begun ws in
    let with_rows = rows_placed dense (areas_of both) [] both in
    let field : Field = record { columns = columns_for columns with_rows; first = first_row rows with_rows; dense = dense } in
    let start : Position = record { column = field.columns.start; row = field.first } in
    all_areas (rest_placed field (areas_of with_rows) start with_rows) (rest_full field (areas_of with_rows) start with_rows (rows_full dense (areas_of both) [] ws h))

turned_filled : (ws : List Wish) → AreFilled ws → AreFilled (map turned_wish ws)
turned_filled [] h = tt
turned_filled (w ∷ ws) h = ((h.0.1, h.0.0), turned_filled ws h.1)

turned_full : (areas : List Area) → AreFull areas → AreFull (map turned_area areas)
turned_full [] h = tt
turned_full (a ∷ rest) h = (record { columns = h.0.rows; rows = h.0.columns }, turned_full rest h.1)

pub placed_full : (ws : List Wish) (shape : Shape) → AreFilled ws → AreFull (placed ws shape)
placed_full ws shape h = go shape.column_flow
  where
    go : (b : Bool) → AreFull (if b then map turned_area (placed_by_rows shape.rows shape.columns shape.dense (map turned_wish ws)) else placed_by_rows shape.columns shape.rows shape.dense ws)
    go true = turned_full (placed_by_rows shape.rows shape.columns shape.dense (map turned_wish ws)) (by_rows_full shape.rows shape.columns shape.dense (map turned_wish ws) (turned_filled ws h))
    go false = by_rows_full shape.columns shape.rows shape.dense ws h

-- ---- as many areas as items

rows_count : (dense : Bool) (held mine : List Area) (es : List Entry) → length (rows_placed dense held mine es) ≡ length es
rows_count dense held mine [] = refl
rows_count dense held mine (e ∷ es) = ap suc (rows_count dense (held ++ option_to_list (row_area dense held mine e.wish.column e.wish.row)) (mine ++ option_to_list (row_area dense held mine e.wish.column e.wish.row)) es)

rest_count : (f : Field) (held : List Area) (cursor : Position) (es : List Entry) → length (rest_placed f held cursor es) ≡ length es
rest_count f held cursor [] = refl
rest_count f held cursor (e ∷ es) = ap suc (rest_count f (held ++ option_to_list (next_area f held cursor e.wish.column e.wish.row)) (cursor_after cursor (next_area f held cursor e.wish.column e.wish.row)) es)

by_rows_count : (columns rows : ℕ) (dense : Bool) (ws : List Wish) → length (placed_by_rows columns rows dense ws) ≡ length ws
unfolding placed_by_rows
by_rows_count columns rows dense ws =
    let both = map begun ws in
    let with_rows = rows_placed dense (areas_of both) [] both in
    let field : Field = record { columns = columns_for columns with_rows; first = first_row rows with_rows; dense = dense } in
    let start : Position = record { column = field.columns.start; row = field.first } in
    length-map (rest_placed field (areas_of with_rows) start with_rows) (λ (e : Entry). unwrap_or e.area no_area) ∙ rest_count field (areas_of with_rows) start with_rows ∙ rows_count dense (areas_of both) [] both ∙ length-map ws begun

pub placed_count : (ws : List Wish) (shape : Shape) → length (placed ws shape) ≡ length ws
placed_count ws shape = go shape.column_flow
  where
    go : (b : Bool) → length (if b then map turned_area (placed_by_rows shape.rows shape.columns shape.dense (map turned_wish ws)) else placed_by_rows shape.columns shape.rows shape.dense ws) ≡ length ws
    go true = length-map (placed_by_rows shape.rows shape.columns shape.dense (map turned_wish ws)) turned_area ∙ by_rows_count shape.rows shape.columns shape.dense (map turned_wish ws) ∙ length-map ws turned_wish
    go false = by_rows_count shape.columns shape.rows shape.dense ws

-- ---- what placement gives for the children

pub few_items : (ws : List Wish) (f : ℕ → Wish) (numbers : List ℕ) → ws ≡ map f numbers → length numbers ≤ 65536 → length ws ≤ 65536
few_items ws f numbers e h = omega (arith, h, ap length e ∙ length-map numbers f)

pub areas_are : (ws : List Wish) (numbers : List ℕ) (f : ℕ → Wish) (given shape : Shape) (areas : List Area) → areas ≡ placed ws given → ws ≡ map f numbers → given ≡ shape → areas ≡ placed (map f numbers) shape
areas_are ws numbers f given shape areas a e s = a ∙ (λ i. placed (e i) (s i))

pub areas_full : (ws : List Wish) (shape : Shape) (areas : List Area) → areas ≡ placed ws shape → AreFilled ws → AreFull areas
areas_full ws shape areas e h = subst AreFull (sym e) (placed_full ws shape h)

pub areas_count : (ws : List Wish) (numbers : List ℕ) (f : ℕ → Wish) (shape : Shape) (areas : List Area) → areas ≡ placed ws shape → ws ≡ map f numbers → length areas ≡ length numbers
areas_count ws numbers f shape areas a e = ap length a ∙ placed_count ws shape ∙ ap length e ∙ length-map numbers f

pub ruleset placed_laws = (placeable, few_items, areas_are, areas_full, areas_count)
