-- The step of the items that are left.
use Rattle.std.proofs.Common.{ap, arith, rules, subst, ◌≡◌, ◌≤◌, set, sym, ◌∙◌, ℕ, ◌+◌, ℤ, pos, ◌+ℤ◌, ◌≤ℤ◌, ◌<ℤ◌, Bool, true, false, ◌&&◌, List, [], ◌∷◌, ◌++◌, length, map, if◌then◌else◌}
use Rattle.std.specs.Prelude.{Option, Some, option_to_list, IsTrue, int_le, int_lt}
use Rattle.std.specs.BTreeMap.{IsEmpty}
use Rattle.std.proofs.lemmas.Int.{ints}
use Rattle.std.proofs.lemmas.List.{length-append}
use Rattle.lunit.specs.declared.geometry.Area.{Area}
use Rattle.lunit.specs.declared.geometry.Span.{Span}
use Rattle.lunit.specs.declared.geometry.Spot.{Spot}
use Rattle.lunit.specs.declared.geometry.Spot.TheVariants.{At, Free}
use Rattle.part_rules.proofs.Placed.{free_position_inside}
use Rattle.part_rules.specs.Placement as rules
use Rattle.part_rules.specs.Placement.{to_end, area_at, free_row, free_position, rows_to_search, column_search_start, free_search_start, next_area, cursor_after, rest_placed, with_area}
use Rattle.grid_placement.specs.declared.entry.Entry.{Entry}
use Rattle.grid_placement.specs.declared.field.Field.{Field}
use Rattle.grid_placement.specs.declared.search.Position.{Position}
use Rattle.grid_placement.specs.Entries.{all_seen, can_be_placed, count_left, final_area, one_left, reach}
use Rattle.grid_placement.specs.declared.reached.Reached.{Reached}
use Rattle.grid_placement.specs.Reached.{position_of}
use Rattle.grid_placement.specs.Fields.{AllHaveRoom, HasRoom, IsNextStep, IsSet, Knows, field_of, next_of, position_from, row_from}
use Rattle.grid_placement.proofs.Known.{IsBegin, knows_nothing, position_finds, position_from_by, row_finds, row_from_by}
use Rattle.grid_placement.specs.Wishes.{is_within}
use Rattle.grid_placement.proofs.Near.{both_pass, ends_later}
use Rattle.grid_placement.proofs.Least.{row_near}
use Rattle.grid_placement.proofs.Positions.{found, row_within, column_within}
use Rattle.grid_placement.proofs.InRows.{near_more}

-- The areas so far and the entries that are left.
pub record LeftSoFar (flow : Bool) (field : Field) (first : List Area) (all : List Entry) (held : List Area) (cursor : Position) (reached : Reached) (done : List Area) (left : List Entry) : Type 0 where
  pub areas : done ++ map (final_area flow) (rest_placed (field_of field) held (position_of cursor) (all_seen left)) ≡ map (final_area flow) (rest_placed (field_of field) first (record { column = field.first; row = field.row }) (all_seen all))
  pub set : IsSet held field cursor
  pub knows : Knows field.dense field reached held
  pub fit : IsTrue (can_be_placed (all_seen left))
  pub room : AllHaveRoom field.first field.last (all_seen left)
  pub count : length held + count_left (all_seen left) ≤ 65536

pub left_begin : (flow : Bool) (field : Field) (first : List Area) (all : List Entry) (cursor : Position) (reached : Reached) (none : List Area) → none ≡ [] → IsEmpty reached.rows → reached.positions.items ≡ [] → cursor.column ≡ field.first → cursor.row ≡ field.row
    → ((start : Position) → start.column ≡ field.first → start.row ≡ field.row → IsSet first field start) → IsTrue (can_be_placed (all_seen all)) → AllHaveRoom field.first field.last (all_seen all) → length first + count_left (all_seen all) ≤ 65536
    → LeftSoFar flow field first all first cursor reached none all
left_begin flow field first all cursor reached none n e1 e2 c r set fit room count =
    let at : position_of cursor ≡ position_of (record { column = field.first; row = field.row }) = λ i. record { column = c i; row = r i } in record {
      areas = λ i. n i ++ map (final_area flow) (rest_placed (field_of field) first (at i) (all_seen all));
      set = set cursor c r;
      knows = knows_nothing field.dense field reached first e1 e2 (set cursor c r).first;
      fit = fit;
      room = room;
      count = count;
    }

-- with an item left, so many areas are before the farthest line
one_room : (n : ℕ) (row : Spot) (l : ℕ) → row ≡ Free l → n + one_left row ≤ 65536 → n + 1 ≤ 65536
one_room n row l e h = subst (λ (s : Spot). n + one_left s ≤ 65536) e h

search_start_by : (field : Field) (held : List Area) (cursor : Position) (columns : Span) → IsSet held field cursor → column_search_start (field_of field) (position_of cursor) columns ≤ℤ (reach (length held) +ℤ pos 1)
search_start_by field held cursor columns s = go field.dense (int_lt columns.start cursor.column)
  where
    go : (d b : Bool) → (if d then field.row else if b then cursor.row +ℤ pos 1 else cursor.row) ≤ℤ (reach (length held) +ℤ pos 1)
    go true b = let h = s.row in omega (arith, ints)
    go false true = let h = s.cursor_row in omega (arith, ints)
    go false false = let h = s.cursor_row in omega (arith, ints)

pub start_near : (field : Field) (reached : Reached) (held : List Area) (cursor : Position) (columns : Span) (row : Spot) (l : ℕ) (from : ℤ) → IsSet held field cursor → Knows field.dense field reached held → row ≡ Free l → length held + one_left row ≤ 65536
    → from ≡ row_from field.dense field cursor reached columns l → from ≤ℤ pos 1310805536
start_near field reached held cursor columns row l from s k e h f =
    let by = row_from_by field reached held cursor columns l s k in
    let n = one_room (length held) row l e h in
    omega (arith, ints)

pub rows_are_next : (field : Field) (reached : Reached) (held : List Area) (cursor : Position) (column row : Spot) (columns rows : Span) (l : ℕ) (x from : ℤ) → column ≡ At columns → row ≡ Free l → from ≡ row_from field.dense field cursor reached columns l
    → rows ≡ to_end (free_row held columns l x) l → x ≡ from → Knows field.dense field reached held → Some (record { columns = columns; rows = rows }) ≡ next_of field held cursor column row
rows_are_next field reached held cursor column row columns rows l x from ce re fe e xe h =
    subst (λ (c : Spot). Some (record { columns = columns; rows = rows }) ≡ next_of field held cursor c row) (sym ce)
    (subst (λ (r : Spot). Some (record { columns = columns; rows = rows }) ≡ next_of field held cursor (At columns) r) (sym re)
    (λ i. Some (record { columns = columns; rows = (e ∙ (λ j. to_end ((ap (free_row held columns l) (xe ∙ fe) ∙ row_finds field reached held cursor columns l h) j) l)) i })))

pub begin_near : (field : Field) (reached : Reached) (held : List Area) (cursor : Position) (column row : Spot) (k l : ℕ) (from : Position) → IsSet held field cursor → Knows field.dense field reached held → HasRoom field.first field.last column row → column ≡ Free k → row ≡ Free l
    → length held + one_left row ≤ 65536 → from ≡ position_from field.dense field cursor reached k l → ((field.first ≤ℤ from.column) × (from.column ≤ℤ pos 1310805536) × (from.row <ℤ pos 1310805536)) × ((field.first +ℤ pos k) ≤ℤ field.last)
begin_near field reached held cursor column row k l from s h room ce re count f =
    let fits : (field.first +ℤ pos k) ≤ℤ field.last = subst (λ (c : Spot). HasRoom field.first field.last c (Free l)) ce (subst (λ (r : Spot). HasRoom field.first field.last column r) re room) in
    let n = one_room (length held) row l re count in
    let by = subst (λ (p : Position). IsBegin field.first (reach (length held)) p) (sym f) (position_from_by field reached held cursor k l s fits h) in
    let a = by.after in
    let c = by.column in
    let r = by.row in
    ((a, omega (arith, ints), omega (arith, ints)), fits)

pub area_is_next : (field : Field) (reached : Reached) (held : List Area) (cursor : Position) (column row : Spot) (k l : ℕ) (from : Position) (a : Area) (x y : ℤ) → x ≡ field.first → y ≡ field.last → column ≡ Free k → row ≡ Free l → HasRoom field.first field.last column row →
    from ≡ position_from field.dense field cursor reached k l
    → a ≡ area_at (found held (record { start = x; end = y }) k l (position_of from)) k l → Knows field.dense field reached held → Some a ≡ next_of field held cursor column row
area_is_next field reached held cursor column row k l from a x y xe ye ce re room f e0 h =
    let e : a ≡ area_at (found held (record { start = field.first; end = field.last }) k l (position_of from)) k l = e0 ∙ (λ i. area_at (found held (record { start = xe i; end = ye i }) k l (position_of from)) k l) in
    let fits : (field.first +ℤ pos k) ≤ℤ field.last = subst (λ (c : Spot). HasRoom field.first field.last c (Free l)) ce (subst (λ (r : Spot). HasRoom field.first field.last column r) re room) in
    subst (λ (c : Spot). Some a ≡ next_of field held cursor c row) (sym ce)
    (subst (λ (r : Spot). Some a ≡ next_of field held cursor (Free k) r) (sym re)
    (λ i. Some ((e ∙ (λ j. area_at (found held (record { start = field.first; end = field.last }) k l (position_of (f j))) k l) ∙ (λ j. area_at (position_finds field reached held cursor k l fits h j) k l)) i)))

record IsStart (first line : ℤ) (p : rules.Position) : Type 0 where
  after : first ≤ℤ p.column
  column : p.column ≤ℤ line
  row : p.row ≤ℤ line

position_by : (field : Field) (held : List Area) (cursor : Position) → IsSet held field cursor → IsStart field.first (reach (length held)) (free_search_start (field_of field) (position_of cursor))
position_by field held cursor s = go field.dense
  where
    go : (d : Bool) → IsStart field.first (reach (length held)) (if d then record { column = field.first; row = field.row } else position_of cursor)
    go true = record { after = omega (arith, ints); column = s.first; row = s.row }
    go false = record { after = s.after; column = s.cursor_column; row = s.cursor_row }

-- what holds after an area is taken
set_more : (field : Field) (held : List Area) (cursor : Position) (a : Area) → IsSet held field cursor → field.first ≤ℤ a.columns.start → a.columns.start ≤ℤ (reach (length held) +ℤ pos 1) → a.rows.start ≤ℤ (reach (length held) +ℤ pos 1)
    → a.columns.end ≤ℤ (reach (length held) +ℤ pos 20001) → a.rows.end ≤ℤ (reach (length held) +ℤ pos 20001) → IsSet (held ++ a ∷ []) field (record { column = a.columns.start; row = a.rows.start })
set_more field held cursor a s after c r ce re =
    let n : length (held ++ a ∷ []) ≡ length held + 1 = length-append held (a ∷ []) in
    let f = s.first in
    let g = s.row in record {
      near = near_more held a s.near ce re;
      first = omega (arith, ints);
      row = omega (arith, ints);
      after = after;
      cursor_column = omega (arith, ints);
      cursor_row = omega (arith, ints);
    }

next_set : (field : Field) (held : List Area) (cursor : Position) (column row : Spot) (a : Area) → IsSet held field cursor → is_within column ≡ true → is_within row ≡ true → HasRoom field.first field.last column row → Some a ≡ next_of field held cursor column row
    → IsSet (held ++ a ∷ []) field (record { column = a.columns.start; row = a.rows.start })
next_set field held cursor (At c) (At r) a s cf rf room e = absurd cc
next_set field held cursor (Free k) (At r) a s cf rf room e = absurd cc
next_set field held cursor (At c) (Free l) a s cf rf room e =
    let from = column_search_start (field_of field) (position_of cursor) c in
    let line = reach (length held) +ℤ pos 1 in
    let is : Area = record { columns = c; rows = to_end (free_row held c l from) l } in
    let same : is ≡ a = cc in
    let found = row_near line held c l from (ends_later (reach (length held)) line held (omega (arith, ints)) s.near) (search_start_by field held cursor c s) in
    let short : l ≤ 20000 = search rules in
    let parts = both_pass (int_lt c.start c.end) (int_le c.end (pos 20000)) cf in
    let low : c.end ≤ℤ pos 20000 = let t = parts.1 in search rules in
    let less : c.start <ℤ c.end = let t = parts.0 in search rules in
    subst (λ (x : Area). IsSet (held ++ x ∷ []) field (record { column = x.columns.start; row = x.rows.start })) same
    (set_more field held cursor is s room (omega (arith, ints)) (omega (arith, ints)) (omega (arith, ints)) (omega (arith, ints)))
next_set field held cursor (Free k) (Free l) a s cf rf room e =
    let from = free_search_start (field_of field) (position_of cursor) in
    let line = reach (length held) +ℤ pos 1 in
    let columns : Span = record { start = field.first; end = field.last } in
    let p = free_position held columns k l (rows_to_search held from.row) from in
    let same : area_at p k l ≡ a = cc in
    let start = position_by field held cursor s in
    let sr = start.row in
    let sc = start.column in
    let by_row = row_within line held columns k l from (ends_later (reach (length held)) line held (omega (arith, ints)) s.near) (omega (arith, ints)) room in
    let by_column = column_within (reach (length held)) held columns k l from s.near start.after sc room in
    let inside = free_position_inside held columns k l from start.after room in
    let short_k : k ≤ 20000 = search rules in
    let short_l : l ≤ 20000 = search rules in
    subst (λ (x : Area). IsSet (held ++ x ∷ []) field (record { column = x.columns.start; row = x.rows.start })) same
    (set_more field held cursor (area_at p k l) s inside.starts (omega (arith, ints)) (omega (arith, ints)) (omega (arith, ints)) (omega (arith, ints)))

pub next_step_is : (field : Field) (held now : List Area) (cursor later : Position) (column row : Spot) (found : Option Area) (a : Area) (reached : Reached) → IsSet held field cursor → (is_within column && is_within row) ≡ true → HasRoom field.first field.last column row
    → found ≡ next_of field held cursor column row → found ≡ Some a → now ≡ held ++ option_to_list found → later.column ≡ a.columns.start → later.row ≡ a.rows.start
    → (Some a ≡ next_of field held cursor column row → Knows field.dense field reached (held ++ a ∷ [])) → IsNextStep field held cursor column row (Some a) now later reached
next_step_is field held now cursor later column row found a reached s fit room f e n c r knows =
    let parts = both_pass (is_within column) (is_within row) fit in
    let is : Some a ≡ next_of field held cursor column row = sym e ∙ f in
    let end : now ≡ held ++ a ∷ [] = n ∙ (λ i. held ++ option_to_list (e i)) in
    let at : position_of later ≡ record { column = a.columns.start; row = a.rows.start } = λ i. record { column = c i; row = r i } in
    record {
      area = is;
      cells = n ∙ (λ i. held ++ option_to_list (f i));
      cursor_is = at ∙ (λ i. cursor_after (position_of cursor) (is i));
      set = subst (λ (x : List Area). IsSet x field later) (sym end) (subst (λ (p : Position). IsSet (held ++ a ∷ []) field p) (λ i. record { column = sym c i; row = sym r i }) (next_set field held cursor column row a s parts.0 parts.1 room is));
      knows = subst (λ (x : List Area). Knows field.dense field reached x) (sym end) (knows is);
    }
