-- The same cells in another order give the same places.
use Rattle.std.proofs.Common.{arith, rules, ap, ◌≡◌, refl, sym, ◌∙◌, true≢false, ℕ, ℤ, pos, ◌+ℤ◌, ◌-ℤ◌, ◌≤ℤ◌, Bool, true, false, not, ◌&&◌, List, [], ◌∷◌, ◌++◌, map, int_lt, if◌then◌else◌}
use Rattle.std.specs.Prelude.{Some, option_to_list}
use Rattle.std.proofs.lemmas.Int.{ints}
use Rattle.lunit.specs.Areas.{is_free, areas_overlap}
use Rattle.lunit.specs.declared.geometry.Area.{Area}
use Rattle.lunit.specs.declared.geometry.Span.{Span}
use Rattle.lunit.specs.declared.geometry.Spot.{Spot}
use Rattle.lunit.specs.declared.geometry.Spot.TheVariants.{At, Free}
use Rattle.part_rules.specs.declared.wish.Wish.{Wish}
use Rattle.part_rules.specs.Lists.{above_zero}
use Rattle.part_rules.specs.Placement as rules
use Rattle.part_rules.specs.Placement.{to_end, free_row, far_row, row_area, rows_placed, next_area, rest_placed, with_area, cursor_after, areas_of, begun, Position, Field, area_at, free_search_start, column_search_start}
use Rattle.part_rules.proofs.Placed.{none_before, free_row_free, free_position_free, free_position_inside}
use Rattle.grid_placement.specs.Entries.{rows_added}
use Rattle.grid_placement.specs.Fields.{AllHaveRoom, HasRoom}
use Rattle.grid_placement.proofs.Least.{row_after}
use Rattle.grid_placement.specs.Reached.{NotAfter}
use Rattle.grid_placement.proofs.Positions.{found, found_not_before, not_earlier, same_position}

-- an area is free of the one list where it is free of the other
pub record SameCells (a b : List Area) : Type 0 where
  pub same : (x : Area) → is_free x a ≡ is_free x b

pub same_back : (a b : List Area) → SameCells a b → SameCells b a
same_back a b s = record { same = λ x. sym (s.same x) }

and_assoc : (u v w : Bool) → (u && (v && w)) ≡ ((u && v) && w)
and_assoc true v w = refl
and_assoc false v w = refl

pub free_both : (x : Area) (a b : List Area) → is_free x (a ++ b) ≡ (is_free x a && is_free x b)
free_both x [] b = refl
free_both x (c ∷ a) b = ap (λ (t : Bool). not (areas_overlap x c) && t) (free_both x a b) ∙ and_assoc (not (areas_overlap x c)) (is_free x a) (is_free x b)

same_append : (a b new : List Area) → SameCells a b → SameCells (a ++ new) (b ++ new)
same_append a b new s = record { same = λ x. free_both x a new ∙ ap (λ (t : Bool). t && is_free x new) (s.same x) ∙ sym (free_both x b new) }

-- ---- places

row_not_after : (a b : List Area) (columns : Span) (l : ℕ) (from : ℤ) → SameCells a b → free_row b columns l from ≤ℤ free_row a columns l from
row_not_after a b columns l from s = go (int_lt (free_row a columns l from) (free_row b columns l from)) refl
  where
    go : (t : Bool) → int_lt (free_row a columns l from) (free_row b columns l from) ≡ t → free_row b columns l from ≤ℤ free_row a columns l from
    go true t =
        let taken = none_before (λ r. record { columns = columns; rows = to_end r l }) b (above_zero (rules.far_row b from -ℤ from)) from (free_row a columns l from) (row_after a columns l from) (search rules) in
        absurd (true≢false (sym (free_row_free a columns l from) ∙ s.same (record { columns = columns; rows = to_end (free_row a columns l from) l }) ∙ taken))
    go false t = search rules

row_same : (a b : List Area) (columns : Span) (l : ℕ) (from : ℤ) → SameCells a b → free_row a columns l from ≡ free_row b columns l from
row_same a b columns l from s =
    let one = row_not_after a b columns l from s in
    let two = row_not_after b a columns l from (same_back a b s) in
    omega (arith, ints)

position_not_after : (a b : List Area) (columns : Span) (k l : ℕ) (from : Position) → SameCells a b → columns.start ≤ℤ from.column → (columns.start +ℤ pos k) ≤ℤ columns.end → NotAfter (found b columns k l from) (found a columns k l from)
position_not_after a b columns k l from s first fits =
    let inside = free_position_inside a columns k l from first fits in
    not_earlier b columns k l from (found a columns k l from) (found_not_before a columns k l from) inside.starts inside.ends (sym (s.same (area_at (found a columns k l from) k l)) ∙ free_position_free a columns k l from)

pub position_same : (a b : List Area) (columns : Span) (k l : ℕ) (from : Position) → SameCells a b → columns.start ≤ℤ from.column → (columns.start +ℤ pos k) ≤ℤ columns.end → found a columns k l from ≡ found b columns k l from
position_same a b columns k l from s first fits =
    same_position (found a columns k l from) (found b columns k l from) (position_not_after b a columns k l from (same_back a b s) first fits) (position_not_after a b columns k l from s first fits)

start_in : (f : Field) (cursor : Position) → f.columns.start ≤ℤ cursor.column → f.columns.start ≤ℤ (free_search_start f cursor).column
start_in f cursor h = go f.dense
  where
    go : (d : Bool) → f.columns.start ≤ℤ (if d then record { column = f.columns.start; row = f.first } else cursor).column
    go true = omega (arith, ints)
    go false = h

area_same : (f : Field) (a b : List Area) (cursor : Position) (column row : Spot) → SameCells a b → f.columns.start ≤ℤ cursor.column → HasRoom f.columns.start f.columns.end column row → next_area f a cursor column row ≡ next_area f b cursor column row
area_same f a b cursor (At c) (At r) s h room = refl
area_same f a b cursor (Free k) (At r) s h room = refl
area_same f a b cursor (At c) (Free l) s h room = λ i. Some (record { columns = c; rows = to_end (row_same a b c l (column_search_start f cursor c) s i) l })
area_same f a b cursor (Free k) (Free l) s h room = λ i. Some (area_at (position_same a b f.columns k l (free_search_start f cursor) s (start_in f cursor h) room i) k l)

cursor_in : (f : Field) (held : List Area) (cursor : Position) (column row : Spot) → f.columns.start ≤ℤ cursor.column → HasRoom f.columns.start f.columns.end column row → f.columns.start ≤ℤ (cursor_after cursor (next_area f held cursor column row)).column
cursor_in f held cursor (At c) (At r) h room = h
cursor_in f held cursor (Free k) (At r) h room = h
cursor_in f held cursor (At c) (Free l) h room = room
cursor_in f held cursor (Free k) (Free l) h room = (free_position_inside held f.columns k l (free_search_start f cursor) (start_in f cursor h) room).starts

pub rest_same : (f : Field) (a b : List Area) (cursor : Position) (es : List rules.Entry) → SameCells a b → f.columns.start ≤ℤ cursor.column → AllHaveRoom f.columns.start f.columns.end es → rest_placed f a cursor es ≡ rest_placed f b cursor es
rest_same f a b cursor [] s h room = refl
rest_same f a b cursor (e ∷ es) s h room =
    let is = next_area f b cursor e.wish.column e.wish.row in
    let same = area_same f a b cursor e.wish.column e.wish.row s h room.0 in
    (λ i. with_area e (same i) ∷ rest_placed f (a ++ option_to_list (same i)) (cursor_after cursor (same i)) es)
    ∙ ap (λ (x : List rules.Entry). with_area e is ∷ x) (rest_same f (a ++ option_to_list is) (b ++ option_to_list is) (cursor_after cursor is) es (same_append a b (option_to_list is) s) (cursor_in f b cursor e.wish.column e.wish.row h room.0) room.1)

-- ---- the areas of the definite rows, in the order of the items

shuffled : (r s n : Bool) → ((n && r) && s) ≡ (n && (r && s))
shuffled r s true = refl
shuffled r s false = refl

passed : (r s n : Bool) → (r && (n && s)) ≡ (n && (r && s))
passed true s n = refl
passed false s true = refl
passed false s false = refl

rows_free : (x : Area) (dense : Bool) (held mine : List Area) (ws : List Wish) → (is_free x (rows_added dense held mine (map begun ws)) && is_free x (areas_of (map begun ws))) ≡ is_free x (areas_of (rows_placed dense held mine (map begun ws)))
rows_free x dense held mine [] = refl
rows_free x dense held mine (w ∷ ws) = go w.column w.row (λ h m. rows_free x dense h m ws)
  where
    go : (column row : Spot)
        → ((h m : List Area) → (is_free x (rows_added dense h m (map begun ws)) && is_free x (areas_of (map begun ws))) ≡ is_free x (areas_of (rows_placed dense h m (map begun ws))))
        → (let v : Wish = record { column = column; row = row } in (is_free x (rows_added dense held mine (begun v ∷ map begun ws)) && is_free x (areas_of (begun v ∷ map begun ws))) ≡ is_free x (areas_of (rows_placed dense held mine (begun v ∷ map begun ws))))
    go (At c) (At r) later =
        passed (is_free x (rows_added dense (held ++ []) (mine ++ []) (map begun ws))) (is_free x (areas_of (map begun ws))) (not (areas_overlap x (record { columns = c; rows = r })))
        ∙ ap (λ (t : Bool). not (areas_overlap x (record { columns = c; rows = r })) && t) (later (held ++ []) (mine ++ []))
    go (At c) (Free l) later = later (held ++ []) (mine ++ [])
    go (Free k) (Free l) later = later (held ++ []) (mine ++ [])
    go (Free k) (At r) later =
        let new = option_to_list (row_area dense held mine (Free k) (At r)) in
        let a : Area = record { columns = to_end (rules.free_column held k r (rules.row_search_start dense mine r)) k; rows = r } in
        shuffled (is_free x (rows_added dense (held ++ new) (mine ++ new) (map begun ws))) (is_free x (areas_of (map begun ws))) (not (areas_overlap x a))
        ∙ ap (λ (t : Bool). not (areas_overlap x a) && t) (later (held ++ new) (mine ++ new))

and_swap : (u v : Bool) → (u && v) ≡ (v && u)
and_swap true true = refl
and_swap true false = refl
and_swap false true = refl
and_swap false false = refl

pub rows_same : (dense : Bool) (held : List Area) (ws : List Wish) → held ≡ areas_of (map begun ws) → SameCells (held ++ rows_added dense held [] (map begun ws)) (areas_of (rows_placed dense held [] (map begun ws)))
rows_same dense held ws e = record {
  same = λ x. free_both x held (rows_added dense held [] (map begun ws))
      ∙ and_swap (is_free x held) (is_free x (rows_added dense held [] (map begun ws)))
      ∙ ap (λ (h : List Area). is_free x (rows_added dense held [] (map begun ws)) && is_free x h) e
      ∙ rows_free x dense held [] ws;
}
