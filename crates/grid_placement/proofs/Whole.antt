-- The steps together.
use Rattle.std.proofs.Common.{arith, ap, subst, take, drop, ◌≡◌, ◌≤◌, refl, sym, ◌∙◌, true≢false, ℕ, ◌+◌, ℤ, pos, ◌+ℤ◌, ◌≤ℤ◌, Bool, true, false, ◌&&◌, List, [], ◌∷◌, ◌++◌, length, map, int_lt, int_le, if◌then◌else◌}
use Rattle.std.proofs.Math.Seq.{take-append_seam}
use Rattle.std.specs.Prelude.{Option, Some, None, option_to_list, unwrap_or, flat_map, IsTrue}
use Rattle.std.specs.List.{list_all}
use Rattle.std.proofs.lemmas.Int.{ints, clamps}
use Rattle.std.proofs.lemmas.List.{length-append}
use Rattle.lunit.specs.declared.geometry.Area.{Area}
use Rattle.lunit.specs.declared.geometry.Span.{Span}
use Rattle.lunit.specs.declared.geometry.Spot.{Spot}
use Rattle.lunit.specs.declared.geometry.Spot.TheVariants.{At, Free}
use Rattle.part_rules.specs.declared.wish.Wish.{Wish}
use Rattle.part_rules.specs.declared.wish.Shape.{Shape}
use Rattle.part_rules.specs.Placement as rules
use Rattle.part_rules.specs.Placement.{row_area, rows_placed, rest_placed, with_area, areas_of, begun, fixed_area, columns_for, first_row, range_of, definite_span, greatest_waiting, no_area, placed_by_rows, placed, turned_wish, turned_area}
use Rattle.grid_placement.specs.declared.entry.Entry.{Entry}
use Rattle.grid_placement.specs.declared.field.Field.{Field}
use Rattle.grid_placement.specs.declared.search.Position.{Position}
use Rattle.grid_placement.specs.Near.{AllEndBy, ends_by}
use Rattle.grid_placement.specs.Entries.{can_be_placed, count_in_rows, count_left, one_in_row, one_left, final_area, reach, rows_added}
use Rattle.grid_placement.specs.Fields.{AllHaveRoom, IsSet, field_of}
use Rattle.grid_placement.specs.Wishes.{is_within, is_placeable, are_placeable, wish_in_flow, area_in_flow, explicit_columns, explicit_rows}
use Rattle.grid_placement.proofs.Near.{both_pass, pass_both, ends_later}
use Rattle.grid_placement.proofs.Same.{rows_same, rest_same}

-- ---- the items as the flow sees them

abbrev pub flow_items : Bool → List Wish → List rules.Entry
flow_items flow items = map begun (map (wish_in_flow flow) items)

and_swap : (u v : Bool) → (u && v) ≡ true → (v && u) ≡ true
and_swap true true e = refl
and_swap true false e = absurd (true≢false (sym e))
and_swap false v e = absurd (true≢false (sym e))

one_fits : (flow : Bool) (w : Wish) → is_placeable w ≡ true → is_placeable (wish_in_flow flow w) ≡ true
one_fits true w h = and_swap (is_within w.column) (is_within w.row) h
one_fits false w h = h

pub items_fit : (flow : Bool) (items : List Wish) → IsTrue (are_placeable items) → IsTrue (can_be_placed (flow_items flow items))
items_fit flow [] h = h
items_fit flow (w ∷ ws) h =
    let parts = both_pass (is_placeable w) (are_placeable ws) h in
    pass_both (is_placeable (wish_in_flow flow w)) (can_be_placed (flow_items flow ws)) (one_fits flow w parts.0) (items_fit flow ws parts.1)

one_place : (column row : Spot) → length (option_to_list (fixed_area column row)) + (one_in_row column row + one_left row) ≡ 1
one_place (At c) (At r) = refl
one_place (At c) (Free l) = refl
one_place (Free k) (At r) = refl
one_place (Free k) (Free l) = refl

pub all_counted : (flow : Bool) (items : List Wish) → length (areas_of (flow_items flow items)) + (count_in_rows (flow_items flow items) + count_left (flow_items flow items)) ≡ length items
all_counted flow [] = refl
all_counted flow (w ∷ ws) =
    let v = wish_in_flow flow w in
    let one = one_place v.column v.row in
    let n = length-append (option_to_list (fixed_area v.column v.row)) (areas_of (flow_items flow ws)) in
    let rest = all_counted flow ws in
    omega (arith, n, one, rest)

fixed_ends : (column row : Spot) → is_within column ≡ true → is_within row ≡ true → (held : List Area) → AllEndBy (pos 20000) held → AllEndBy (pos 20000) (option_to_list (fixed_area column row) ++ held)
fixed_ends (At c) (Free l) cf rf held h = h
fixed_ends (Free k) (At r) cf rf held h = h
fixed_ends (Free k) (Free l) cf rf held h = h
fixed_ends (At c) (At r) cf rf held h =
    let cs = both_pass (int_lt c.start c.end) (int_le c.end (pos 20000)) cf in
    let rs = both_pass (int_lt r.start r.end) (int_le r.end (pos 20000)) rf in
    record { each = pass_both (int_le c.end (pos 20000) && int_le r.end (pos 20000)) (list_all (ends_by (pos 20000)) held) (pass_both (int_le c.end (pos 20000)) (int_le r.end (pos 20000)) cs.1 rs.1) h.each }

fixed_near : (flow : Bool) (items : List Wish) → IsTrue (are_placeable items) → AllEndBy (pos 20000) (areas_of (flow_items flow items))
fixed_near flow [] h = record { each = refl }
fixed_near flow (w ∷ ws) h =
    let parts = both_pass (is_placeable w) (are_placeable ws) h in
    let v = wish_in_flow flow w in
    let fits = both_pass (is_within v.column) (is_within v.row) (one_fits flow w parts.0) in
    fixed_ends v.column v.row fits.0 fits.1 (areas_of (flow_items flow ws)) (fixed_near flow ws parts.1)

pub begun_near : (flow : Bool) (items : List Wish) (held : List Area) → IsTrue (are_placeable items) → held ≡ areas_of (flow_items flow items) → AllEndBy (reach (length held)) held
begun_near flow items held h e = ends_later (pos 20000) (reach (length held)) held (omega (arith, ints)) (subst (λ (a : List Area). AllEndBy (pos 20000) a) (sym e) (fixed_near flow items h))

pub begun_fit : (flow : Bool) (items : List Wish) (es : List rules.Entry) → IsTrue (are_placeable items) → es ≡ flow_items flow items → IsTrue (can_be_placed es)
begun_fit flow items es h e = subst (λ (x : List rules.Entry). IsTrue (can_be_placed x)) (sym e) (items_fit flow items h)

pub begun_room : (flow : Bool) (items : List Wish) (es : List rules.Entry) (held : List Area) → length items ≤ 65536 → es ≡ flow_items flow items → held ≡ areas_of (flow_items flow items) → length held + (count_in_rows es + count_left es) ≤ 65536
begun_room flow items es held n e h =
    let all = all_counted flow items in
    let a = ap length h in
    let b = ap count_in_rows e in
    let c = ap count_left e in
    omega (arith, all, a, b, c)

-- ---- after the definite rows

wish_stays : (e : rules.Entry) (area : Option Area) → (with_area e area).wish ≡ e.wish
wish_stays e None = refl
wish_stays e (Some a) = refl

pub left_stays : (dense : Bool) (held mine : List Area) (es : List rules.Entry) → count_left (rows_placed dense held mine es) ≡ count_left es
left_stays dense held mine [] = refl
left_stays dense held mine (e ∷ es) =
    let area = row_area dense held mine e.wish.column e.wish.row in
    let rest = left_stays dense (held ++ option_to_list area) (mine ++ option_to_list area) es in
    let one = ap (λ (w : Wish). one_left w.row) (wish_stays e area) in
    omega (arith, rest, one)

pub fit_stays : (dense : Bool) (held mine : List Area) (es : List rules.Entry) → can_be_placed (rows_placed dense held mine es) ≡ can_be_placed es
fit_stays dense held mine [] = refl
fit_stays dense held mine (e ∷ es) =
    let area = row_area dense held mine e.wish.column e.wish.row in
    λ i. is_placeable (wish_stays e area i) && fit_stays dense (held ++ option_to_list area) (mine ++ option_to_list area) es i

one_added : (dense : Bool) (held mine : List Area) (column row : Spot) → length (option_to_list (row_area dense held mine column row)) ≡ one_in_row column row
one_added dense held mine (At c) row = refl
one_added dense held mine (Free k) (Free l) = refl
one_added dense held mine (Free k) (At rows) = refl

pub added_counted : (dense : Bool) (held mine : List Area) (es : List rules.Entry) → length (rows_added dense held mine es) ≡ count_in_rows es
added_counted dense held mine [] = refl
added_counted dense held mine (e ∷ es) =
    let new = option_to_list (row_area dense held mine e.wish.column e.wish.row) in
    let one = one_added dense held mine e.wish.column e.wish.row in
    let rest = added_counted dense (held ++ new) (mine ++ new) es in
    let n = length-append new (rows_added dense (held ++ new) (mine ++ new) es) in
    omega (arith, one, rest, n)

-- ---- the field

start_at_most : (explicit : ℕ) (spans : List Span) → (range_of explicit spans).start ≤ℤ pos 0
start_at_most explicit [] = omega (arith, ints)
start_at_most explicit (s ∷ spans) = let h = start_at_most explicit spans in omega (arith, ints, clamps, h)

abbrev own_spans : List rules.Entry → List Span
own_spans es = flat_map (λ (e : rules.Entry). definite_span e.wish.column) es

room_for : (dense : Bool) (explicit : ℕ) (more : List Span) (first last : ℤ) (held mine : List Area) (ws : List Wish)
    → first ≤ℤ (range_of explicit (own_spans (rows_placed dense held mine (map begun ws)) ++ more)).start → (first +ℤ pos (greatest_waiting (rows_placed dense held mine (map begun ws)))) ≤ℤ last
    → AllHaveRoom first last (rows_placed dense held mine (map begun ws))
room_for dense explicit more first last held mine [] s e = tt
room_for dense explicit more first last held mine (w ∷ ws) s e = go w.column w.row (λ h m. room_for dense explicit more first last h m ws) s e
  where
    go : (column row : Spot)
        → ((h m : List Area) → first ≤ℤ (range_of explicit (own_spans (rows_placed dense h m (map begun ws)) ++ more)).start → (first +ℤ pos (greatest_waiting (rows_placed dense h m (map begun ws)))) ≤ℤ last → AllHaveRoom first last (rows_placed dense h m (map begun ws)))
        → (let v : Wish = record { column = column; row = row } in first ≤ℤ (range_of explicit (own_spans (rows_placed dense held mine (begun v ∷ map begun ws)) ++ more)).start → (first +ℤ pos (greatest_waiting (rows_placed dense held mine (begun v ∷ map begun ws)))) ≤ℤ last
        → AllHaveRoom first last (rows_placed dense held mine (begun v ∷ map begun ws)))
    go (At c) (At r) later s e = (tt, later (held ++ []) (mine ++ []) (omega (arith, ints, clamps, s)) (omega (arith, ints, e)))
    go (At c) (Free l) later s e = (omega (arith, ints, clamps, s), later (held ++ []) (mine ++ []) (omega (arith, ints, clamps, s)) (omega (arith, ints, e)))
    go (Free k) (At r) later s e =
        let new = option_to_list (row_area dense held mine (Free k) (At r)) in
        (tt, later (held ++ new) (mine ++ new) s (omega (arith, ints, e)))
    go (Free k) (Free l) later s e = (omega (arith, ints, e), later (held ++ []) (mine ++ []) s (omega (arith, ints, e)))

pub field_has_room : (dense : Bool) (explicit : ℕ) (held : List Area) (ws : List Wish) → (let es = rows_placed dense held [] (map begun ws) in let columns = columns_for explicit es in AllHaveRoom columns.start columns.end es)
field_has_room dense explicit held ws =
    let es = rows_placed dense held [] (map begun ws) in
    let columns = columns_for explicit es in
    room_for dense explicit (map (λ (a : Area). a.columns) (areas_of es)) columns.start columns.end held [] ws (omega (arith, ints)) (omega (arith, ints, clamps))

-- ---- both flows

pub all_same : {X : Type 0} (f : X → X) (xs : List X) → ((x : X) → f x ≡ x) → map f xs ≡ xs
all_same f [] h = refl
all_same f (x ∷ xs) h = λ i. h x i ∷ all_same f xs h i

pub map_twice : {X Y Z : Type 0} (g : Y → Z) (f : X → Y) (xs : List X) → map (λ x. g (f x)) xs ≡ map g (map f xs)
map_twice g f [] = refl
map_twice g f (x ∷ xs) = ap (λ ys. g (f x) ∷ ys) (map_twice g f xs)

pub in_flow : (flow : Bool) (items : List Wish) (shape : Shape) → map (area_in_flow flow) (placed_by_rows (explicit_columns flow shape) (explicit_rows flow shape) shape.dense (map (wish_in_flow flow) items))
    ≡ (if flow then map turned_area (placed_by_rows shape.rows shape.columns shape.dense (map turned_wish items)) else placed_by_rows shape.columns shape.rows shape.dense items)
in_flow true items shape = refl
in_flow false items shape = all_same (area_in_flow false) (placed_by_rows shape.columns shape.rows shape.dense (map (wish_in_flow false) items)) (λ x. refl) ∙ ap (λ (ws : List Wish). placed_by_rows shape.columns shape.rows shape.dense ws) (all_same (wish_in_flow false) items (λ x. refl))

by_steps : (columns rows : ℕ) (dense : Bool) (ws : List Wish) (held : List Area) → held ≡ areas_of (map begun ws)
    → (let es = rows_placed dense held [] (map begun ws) in let field : rules.Field = record { columns = columns_for columns es; first = first_row rows es; dense = dense } in let start : rules.Position = record { column = field.columns.start; row = field.first } in
    map (λ (e : rules.Entry). unwrap_or e.area no_area) (rest_placed field (held ++ rows_added dense held [] (map begun ws)) start es) ≡ placed_by_rows columns rows dense ws)
unfolding placed_by_rows
by_steps columns rows dense ws held h =
    let es = rows_placed dense held [] (map begun ws) in
    let field : rules.Field = record { columns = columns_for columns es; first = first_row rows es; dense = dense } in
    let start : rules.Position = record { column = field.columns.start; row = field.first } in
    ap (λ (xs : List rules.Entry). map (λ (e : rules.Entry). unwrap_or e.area no_area) xs)
    (rest_same field (held ++ rows_added dense held [] (map begun ws)) (areas_of es) start es (rows_same dense held ws h) (omega (arith, ints)) (field_has_room dense columns held ws))
    ∙ (λ i.
    let es : List rules.Entry = rows_placed dense (h i) [] (map begun ws) in
    let field : rules.Field = record { columns = columns_for columns es; first = first_row rows es; dense = dense } in
    let start : rules.Position = record { column = field.columns.start; row = field.first } in
    map (λ (e : rules.Entry). unwrap_or e.area no_area) (rest_placed field (areas_of es) start es))

-- ---- the whole

pub field_set : (columns rows : ℕ) (es : List rules.Entry) (held : List Area) (field : Field) (start : Position) → AllEndBy (reach (length held)) held → field.first ≡ (columns_for columns es).start → field.row ≡ first_row rows es → start.column ≡ field.first → start.row ≡ field.row →
    IsSet held field start
field_set columns rows es held field start near f r c s =
    let low = start_at_most columns (own_spans es ++ map (λ (a : Area). a.columns) (areas_of es)) in
    let early = start_at_most rows (flat_map (λ (e : rules.Entry). definite_span e.wish.row) es ++ map (λ (a : Area). a.rows) (areas_of es)) in
    record {
      near = near;
      first = omega (arith, ints, low, f);
      row = omega (arith, ints, early, r);
      after = omega (arith, ints);
      cursor_column = omega (arith, ints, low, f);
      cursor_row = omega (arith, ints, early, r);
    }

pub placed_is : (items : List Wish) (shape : Shape) (before after : List rules.Entry) (first held : List Area) (field : Field) → before ≡ flow_items shape.column_flow items → first ≡ areas_of (flow_items shape.column_flow items)
    → after ≡ rows_placed shape.dense first [] before → held ≡ first ++ rows_added shape.dense first [] before
    → (let columns : Span = record { start = field.first; end = field.last } in columns ≡ columns_for (explicit_columns shape.column_flow shape) after) → field.row ≡ first_row (explicit_rows shape.column_flow shape) after → field.dense ≡ shape.dense
    → map (final_area shape.column_flow) (rest_placed (field_of field) held (record { column = field.first; row = field.row }) after) ≡ placed items shape
placed_is items shape before after first held field b f a h c r d =
    let flow = shape.column_flow in
    let ws = map (wish_in_flow flow) items in
    let es = rows_placed shape.dense first [] (map begun ws) in
    let a2 : after ≡ es = a ∙ ap (λ (x : List rules.Entry). rows_placed shape.dense first [] x) b in
    let h2 : held ≡ first ++ rows_added shape.dense first [] (map begun ws) = h ∙ ap (λ (x : List rules.Entry). first ++ rows_added shape.dense first [] x) b in
    let c2 = c ∙ ap (λ (x : List rules.Entry). columns_for (explicit_columns flow shape) x) a2 in
    let r2 = r ∙ ap (λ (x : List rules.Entry). first_row (explicit_rows flow shape) x) a2 in
    map_twice (area_in_flow flow) (λ (e : rules.Entry). unwrap_or e.area no_area) (rest_placed (field_of field) held (record { column = field.first; row = field.row }) after)
    ∙ ap (λ (xs : List rules.Entry). map (area_in_flow flow) (map (λ (e : rules.Entry). unwrap_or e.area no_area) xs)) (λ i. rest_placed (record { columns = c2 i; first = r2 i; dense = d i }) (h2 i) (record { column = (c2 i).start; row = r2 i }) (a2 i))
    ∙ ap (λ (xs : List Area). map (area_in_flow flow) xs) (by_steps (explicit_columns flow shape) (explicit_rows flow shape) shape.dense ws first f)
    ∙ in_flow flow items shape

pub rest_room : (flow dense : Bool) (columns : ℕ) (items : List Wish) (before after : List rules.Entry) (first : List Area) (field : Field) → before ≡ flow_items flow items → after ≡ rows_placed dense first [] before
    → (let span : Span = record { start = field.first; end = field.last } in span ≡ columns_for columns after) → AllHaveRoom field.first field.last after
rest_room flow dense columns items before after first field b a c =
    let ws = map (wish_in_flow flow) items in
    let same : after ≡ rows_placed dense first [] (map begun ws) = a ∙ ap (λ (x : List rules.Entry). rows_placed dense first [] x) b in
    let span : Span = record { start = field.first; end = field.last } in
    let wide : span ≡ columns_for columns (rows_placed dense first [] (map begun ws)) = c ∙ ap (λ (x : List rules.Entry). columns_for columns x) same in
    subst (λ (x : List rules.Entry). AllHaveRoom field.first field.last x) (sym same)
    (subst (λ (s : Span). AllHaveRoom s.start s.end (rows_placed dense first [] (map begun ws))) (sym wide) (field_has_room dense columns first ws))

pub rest_count : (dense : Bool) (before after : List rules.Entry) (first held : List Area) → length first + (count_in_rows before + count_left before) ≤ 65536 → after ≡ rows_placed dense first [] before → held ≡ first ++ rows_added dense first [] before → length held + count_left after ≤ 65536
rest_count dense before after first held n a h =
    let l = ap count_left a in
    let m = left_stays dense first [] before in
    let x = ap length h in
    let y = length-append first (rows_added dense first [] before) in
    let z = added_counted dense first [] before in
    omega (arith, l, m, x, y, z)

pub rest_fit : (dense : Bool) (before after : List rules.Entry) (first : List Area) → IsTrue (can_be_placed before) → after ≡ rows_placed dense first [] before → IsTrue (can_be_placed after)
rest_fit dense before after first h a = subst (λ (x : List rules.Entry). IsTrue (can_be_placed x)) (sym a) (fit_stays dense first [] before ∙ h)

-- what a lent list leaves
pub written : (now old : List Entry) (len : ℕ) → length old ≡ len → length now ≡ length old → take len (now ++ drop (length now) old) ≡ now
written now old len l n = subst (λ (k : ℕ). take k (now ++ drop (length now) old) ≡ now) (n ∙ l) (take-append_seam now (drop (length now) old))
