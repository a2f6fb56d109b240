-- What dense mode knows of the searches so far.
use Rattle.std.proofs.Common.{arith, rules, ◌≤◌, inl, inr, zero, suc, ap, subst, ◌≡◌, refl, sym, ◌∙◌, ℕ, ℤ, pos, ◌+ℤ◌, ◌≤ℤ◌, Bool, true, false, List, [], ◌∷◌, ◌++◌, length, if◌then◌else◌, int_lt}
use Rattle.std.specs.Prelude.{Some, nat_le, slice_set}
use Rattle.std.specs.List.{AllByRecursion}
use Rattle.std.specs.BTreeMap.{BTreeMap, IsEmpty, Updates}
use Rattle.std.proofs.lemmas.Int.{ints}
use Rattle.std.proofs.lemmas.List.{length-append}
use Rattle.lunit.specs.declared.geometry.Area.{Area}
use Rattle.lunit.specs.declared.geometry.Span.{Span}
use Rattle.lunit.specs.declared.geometry.Spot.{Spot}
use Rattle.lunit.specs.declared.geometry.Spot.TheVariants.{At, Free}
use Rattle.part_rules.proofs.Placed.{free_position_inside}
use Rattle.part_rules.specs.Placement as rules
use Rattle.part_rules.specs.Placement.{to_end, area_at, free_row, free_length, column_search_start, free_search_start}
use Rattle.grid_placement.specs.declared.field.Field.{Field}
use Rattle.grid_placement.specs.declared.reached.Reached.{Reached}
use Rattle.grid_placement.specs.declared.reached.SizeReached.{SizeReached}
use Rattle.grid_placement.specs.declared.search.Position.{Position}
use Rattle.grid_placement.specs.Entries.{reach}
use Rattle.grid_placement.specs.Reached.{IsKeptToo, IsReachedAt, NotAfter, PositionsReached, RowsReached, across_cmp, is_not_after, later, position_of, position_reached, serves}
use Rattle.grid_placement.specs.Fields.{AreReached, HasRoom, IsSet, Knows, field_of, first_of, next_of, position_from, row_from}
use Rattle.grid_placement.proofs.Near.{both_pass, ends_later}
use Rattle.grid_placement.proofs.Least.{row_near, row_after}
use Rattle.grid_placement.proofs.LinesReached.{row_from_reached, rows_grow, rows_put}
use Rattle.grid_placement.proofs.Positions.{found, found_not_before, position_larger, not_after_itself, not_after_more, position_again, position_grows, row_within, column_within}
use Rattle.grid_placement.proofs.InRows.{none_reached}

abbrev columns_of : Field → Span
columns_of field = record { start = field.first; end = field.last }

reached_grows : (columns : Span) (first : Position) (line later : ℤ) (held new : List Area) (k l : ℕ) (p : Position) → columns.start ≤ℤ first.column → line ≤ℤ later → IsReachedAt columns first line held k l p → IsReachedAt columns first later (held ++ new) k l p
reached_grows columns first line later held new k l p s h r = record {
  inside = r.inside;
  near = let n = r.near in omega (arith, ints);
  after = r.after;
  before = λ fits. not_after_more (position_of p) (found held columns k l (position_of first)) (found (held ++ new) columns k l (position_of first)) (r.before fits) (position_grows held new columns k l (position_of first) s fits);
}

all_grow : (columns : Span) (first : Position) (line later : ℤ) (held new : List Area) (m : List SizeReached) → columns.start ≤ℤ first.column → line ≤ℤ later → AllByRecursion (λ (r : SizeReached). IsReachedAt columns first line held r.columns r.rows r.position) m
    → AllByRecursion (λ (r : SizeReached). IsReachedAt columns first later (held ++ new) r.columns r.rows r.position) m
all_grow columns first line later held new [] s h all = tt
all_grow columns first line later held new (r ∷ m) s h all = (reached_grows columns first line later held new r.columns r.rows r.position s h all.0, all_grow columns first line later held new m s h all.1)

positions_grow : (m : List SizeReached) (columns : Span) (first : Position) (line later : ℤ) (held new : List Area) → columns.start ≤ℤ first.column → line ≤ℤ later → PositionsReached m columns first line held → PositionsReached m columns first later (held ++ new)
positions_grow m columns first line later held new s h r = let n = r.near in record { near = omega (arith, ints); each = all_grow columns first line later held new m s h r.each }

all_push : (P : SizeReached → Type 0) (m : List SizeReached) (r : SizeReached) → AllByRecursion P m → P r → AllByRecursion P (m ++ r ∷ [])
all_push P [] r h p = (p, tt)
all_push P (x ∷ m) r h p = (h.0, all_push P m r h.1 p)

all_set : (P : SizeReached → Type 0) (m : List SizeReached) (place : ℕ) (r : SizeReached) → AllByRecursion P m → P r → AllByRecursion P (slice_set m place r)
all_set P [] place r h p = tt
all_set P (x ∷ m) zero r h p = (p, h.1)
all_set P (x ∷ m) (suc place) r h p = (h.0, all_set P m place r h.1 p)

positions_put : (m n : List SizeReached) (r : SizeReached) (columns : Span) (first : Position) (line later : ℤ) (held new : List Area) → columns.start ≤ℤ first.column → line ≤ℤ later → IsKeptToo r m n
    → IsReachedAt columns first later (held ++ new) r.columns r.rows r.position → PositionsReached m columns first line held → PositionsReached n columns first later (held ++ new)
positions_put m n r columns first line later held new s h u here all = let near = all.near in record { near = omega (arith, ints); each = by u }
  where
    P : SizeReached → Type 0
    P x = IsReachedAt columns first later (held ++ new) x.columns x.rows x.position

    more : AllByRecursion P m
    more = all_grow columns first line later held new m s h all.each

    by : IsKeptToo r m n → AllByRecursion P n
    by (inl e) = subst (λ (xs : List SizeReached). AllByRecursion P xs) (sym e) (all_push P m r more here)
    by (inr put) = subst (λ (xs : List SizeReached). AllByRecursion P xs) (sym put.is) (all_set P m put.place r more here)

-- ---- what smaller sizes have come to

-- it serves a larger one
reached_larger : (columns : Span) (first : Position) (line : ℤ) (held : List Area) (a b k l : ℕ) (p : Position) → columns.start ≤ℤ first.column → a ≤ k → b ≤ l → IsReachedAt columns first line held a b p → IsReachedAt columns first line held k l p
reached_larger columns first line held a b k l p s wide high r = record {
  inside = r.inside;
  near = r.near;
  after = r.after;
  before = λ fits. not_after_more (position_of p) (found held columns a b (position_of first)) (found held columns k l (position_of first)) (r.before (omega (arith, ints, fits, wide))) (position_larger held columns a b k l (position_of first) s fits wide high);
}

served : (r : SizeReached) (k l : ℕ) → serves r k l ≡ true → (r.columns ≤ k) × (r.rows ≤ l)
served r k l h =
    let parts = both_pass (nat_le r.columns k) (nat_le r.rows l) h in
    let wide : nat_le r.columns k ≡ true = parts.0 in
    let high : nat_le r.rows l ≡ true = parts.1 in
    (search rules, search rules)

pick_later : (columns : Span) (first : Position) (line : ℤ) (held : List Area) (k l : ℕ) (p q : Position) → IsReachedAt columns first line held k l p → IsReachedAt columns first line held k l q → IsReachedAt columns first line held k l (later p q)
pick_later columns first line held k l p q a b = by (is_not_after p q)
  where
    by : (t : Bool) → IsReachedAt columns first line held k l (if t then q else p)
    by true = b
    by false = a

all_serve : (m : List SizeReached) (columns : Span) (first : Position) (line : ℤ) (held : List Area) (k l : ℕ) (p : Position) → columns.start ≤ℤ first.column → AllByRecursion (λ (r : SizeReached). IsReachedAt columns first line held r.columns r.rows r.position) m →
    IsReachedAt columns first line held k l p
    → IsReachedAt columns first line held k l (position_reached m k l p)
all_serve [] columns first line held k l p s all h = h
all_serve (r ∷ m) columns first line held k l p s all h = all_serve m columns first line held k l (if serves r k l then later p r.position else p) s all.1 (by (serves r k l) refl)
  where
    by : (t : Bool) → serves r k l ≡ t → IsReachedAt columns first line held k l (if t then later p r.position else p)
    by false e = h
    by true e =
        let sizes = served r k l e in
        pick_later columns first line held k l p r.position h (reached_larger columns first line held r.columns r.rows k l r.position s sizes.0 sizes.1 all.0)

-- the first position is one that each search has come to
first_reached : (columns : Span) (first : Position) (line : ℤ) (held : List Area) (k l : ℕ) → columns.start ≤ℤ first.column → first.column ≤ℤ line → IsReachedAt columns first line held k l first
first_reached columns first line held k l s near = record {
  inside = s;
  near = near;
  after = not_after_itself (position_of first);
  before = λ fits. found_not_before held columns k l (position_of first);
}

position_is_reached : (field : Field) (m : List SizeReached) (line : ℤ) (held : List Area) (k l : ℕ) → PositionsReached m (columns_of field) (first_of field) line held → IsReachedAt (columns_of field) (first_of field) line held k l (position_reached m k l (first_of field))
position_is_reached field m line held k l h = all_serve m (columns_of field) (first_of field) line held k l (first_of field) (omega (arith, ints)) h.each (first_reached (columns_of field) (first_of field) line held k l (omega (arith, ints)) h.near)

-- ---- the searches begin where they may

pub knows_nothing : (dense : Bool) (field : Field) (reached : Reached) (held : List Area) → IsEmpty reached.rows → reached.positions.items ≡ [] → field.first ≤ℤ reach (length held) → Knows dense field reached held
knows_nothing false field reached held e f near = tt
knows_nothing true field reached held e f near = record {
  lines = record {
    low = λ columns l. let n = none_reached reached.rows columns l field.row e in omega (arith, ints);
    each = λ columns l. let n = none_reached reached.rows columns l field.row e in let r = row_after held columns l field.row in omega (arith, ints);
  };
  positions = record {
    near = near;
    each = subst (λ (m : List SizeReached). AllByRecursion (λ (r : SizeReached). IsReachedAt (columns_of field) (first_of field) (reach (length held)) held r.columns r.rows r.position) m) (sym f) tt;
  };
}

pub row_finds : (field : Field) (reached : Reached) (held : List Area) (cursor : Position) (columns : Span) (l : ℕ) → Knows field.dense field reached held
    → free_row held columns l (row_from field.dense field cursor reached columns l) ≡ free_row held columns l (column_search_start (field_of field) (position_of cursor) columns)
row_finds field reached held cursor columns l h = go field.dense h
  where
    go : (d : Bool) → Knows d field reached held → free_row held columns l (row_from d field cursor reached columns l) ≡ free_row held columns l (if d then field.row else if int_lt columns.start cursor.column then cursor.row +ℤ pos 1 else cursor.row)
    go true h = row_from_reached reached.rows field.row held columns l h.lines
    go false h = refl

pub row_from_by : (field : Field) (reached : Reached) (held : List Area) (cursor : Position) (columns : Span) (l : ℕ) → IsSet held field cursor → Knows field.dense field reached held → row_from field.dense field cursor reached columns l ≤ℤ (reach (length held) +ℤ pos 1)
row_from_by field reached held cursor columns l s h = go field.dense h
  where
    by_cursor : (b : Bool) → (if b then cursor.row +ℤ pos 1 else cursor.row) ≤ℤ (reach (length held) +ℤ pos 1)
    by_cursor true = let r = s.cursor_row in omega (arith, ints)
    by_cursor false = let r = s.cursor_row in omega (arith, ints)

    go : (d : Bool) → Knows d field reached held → row_from d field cursor reached columns l ≤ℤ (reach (length held) +ℤ pos 1)
    go true h =
        let e = h.lines.each columns l in
        let n = row_near (reach (length held)) held columns l field.row s.near s.row in
        omega (arith, ints)
    go false h = by_cursor (int_lt columns.start cursor.column)

pub record IsBegin (first line : ℤ) (p : Position) : Type 0 where
  pub after : first ≤ℤ p.column
  pub column : p.column ≤ℤ line
  pub row : p.row ≤ℤ (line +ℤ pos 1)

pub position_from_by : (field : Field) (reached : Reached) (held : List Area) (cursor : Position) (k l : ℕ) → IsSet held field cursor → (field.first +ℤ pos k) ≤ℤ field.last → Knows field.dense field reached held →
    IsBegin field.first (reach (length held)) (position_from field.dense field cursor reached k l)
position_from_by field reached held cursor k l s fits h = go field.dense h
  where
    go : (d : Bool) → Knows d field reached held → IsBegin field.first (reach (length held)) (position_from d field cursor reached k l)
    go true h =
        let e = position_is_reached field reached.positions.items (reach (length held)) held k l h.positions in
        let line = reach (length held) +ℤ pos 1 in
        let r = s.row in
        let within = row_within line held (columns_of field) k l (position_of (first_of field)) (ends_later (reach (length held)) line held (omega (arith, ints)) s.near) (omega (arith, ints)) fits in
        let low = (e.before fits).rows in
        record { after = e.inside; column = e.near; row = omega (arith, ints, low, within) }
    go false h = let r = s.cursor_row in record { after = s.after; column = s.cursor_column; row = omega (arith, ints) }

pub position_finds : (field : Field) (reached : Reached) (held : List Area) (cursor : Position) (k l : ℕ) → (field.first +ℤ pos k) ≤ℤ field.last → Knows field.dense field reached held
    → found held (columns_of field) k l (position_of (position_from field.dense field cursor reached k l)) ≡ found held (columns_of field) k l (free_search_start (field_of field) (position_of cursor))
position_finds field reached held cursor k l fits h = go field.dense h
  where
    go : (d : Bool) → Knows d field reached held → found held (columns_of field) k l (position_of (position_from d field cursor reached k l)) ≡ found held (columns_of field) k l (if d then record { column = field.first; row = field.row } else position_of cursor)
    go true h =
        let e = position_is_reached field reached.positions.items (reach (length held)) held k l h.positions in
        position_again held (columns_of field) k l (position_of (first_of field)) (position_of (position_reached reached.positions.items k l (first_of field))) (omega (arith, ints)) e.inside fits e.after (e.before fits)
    go false h = refl

-- ---- after an item is placed

later_reach : (held : List Area) (a : Area) → reach (length held) ≤ℤ reach (length (held ++ a ∷ []))
later_reach held a = let n = length-append held (a ∷ []) in omega (arith, ints, n)

pub knows_rows : (field : Field) (s later : Reached) (held : List Area) (cursor : Position) (column row : Spot) (columns : Span) (a : Area) (k : ℕ) (v : ℤ) → column ≡ At columns → field.dense ≡ true → k ≡ free_length row → v ≡ a.rows.start
    → Updates across_cmp s.rows later.rows ((columns.start, columns.end), k) (Some v) → later.positions.items ≡ s.positions.items → Knows field.dense field s held → Some a ≡ next_of field held cursor column row → Knows field.dense field later (held ++ a ∷ [])
knows_rows field s later held cursor column row columns a k v ce de ke ve u pe h e =
    subst (λ (d : Bool). Knows d field later (held ++ a ∷ [])) (sym de)
    (go row (subst (λ (c : Spot). Some a ≡ next_of field held cursor c row) ce e) (subst (λ (x : ℕ). Updates across_cmp s.rows later.rows ((columns.start, columns.end), x) (Some v)) ke u) (subst (λ (d : Bool). Knows d field s held) de h))
  where
    go : (r : Spot) → Some a ≡ next_of field held cursor (At columns) r → Updates across_cmp s.rows later.rows ((columns.start, columns.end), free_length r) (Some v) → AreReached field s held → AreReached field later (held ++ a ∷ [])
    go (At r) e u h = absurd cc
    go (Free l) e u h =
        let is : Area = record { columns = columns; rows = to_end (free_row held columns l (column_search_start (field_of field) (position_of cursor) columns)) l } in
        let same : a ≡ is = cc in
        let start : column_search_start (field_of field) (position_of cursor) columns ≡ field.row = ap (λ (d : Bool). if d then field.row else if int_lt columns.start cursor.column then cursor.row +ℤ pos 1 else cursor.row) de in
        let line : v ≡ free_row held columns l field.row = ve ∙ ap (λ (x : Area). x.rows.start) same ∙ ap (free_row held columns l) start in
        record {
          lines = rows_put s.rows later.rows field.row held (a ∷ []) columns l v u h.lines line;
          positions = subst (λ (m : List SizeReached). PositionsReached m (columns_of field) (first_of field) (reach (length (held ++ a ∷ []))) (held ++ a ∷ [])) (sym pe)
              (positions_grow s.positions.items (columns_of field) (first_of field) (reach (length held)) (reach (length (held ++ a ∷ []))) held (a ∷ []) (omega (arith, ints)) (later_reach held a) h.positions);
        }

pub knows_position : (field : Field) (s later : Reached) (held : List Area) (cursor : Position) (column row : Spot) (k l : ℕ) (a : Area) (p : Position) → column ≡ Free k → field.dense ≡ true → l ≡ free_length row → p.column ≡ a.columns.start → p.row ≡ a.rows.start
    → (let r : SizeReached = record { columns = k; rows = l; position = p } in IsKeptToo r s.positions.items later.positions.items) → later.rows ≡ s.rows → IsSet held field cursor → HasRoom field.first field.last column row → Knows field.dense field s held →
    Some a ≡ next_of field held cursor column row → Knows field.dense field later (held ++ a ∷ [])
knows_position field s later held cursor column row k l a p ce de le pc pr u re set room h e =
    subst (λ (d : Bool). Knows d field later (held ++ a ∷ [])) (sym de)
    (go row (subst (λ (c : Spot). HasRoom field.first field.last c row) ce room) (subst (λ (c : Spot). Some a ≡ next_of field held cursor c row) ce e)
    (subst (λ (x : ℕ). (let r : SizeReached = record { columns = k; rows = x; position = p } in IsKeptToo r s.positions.items later.positions.items)) le u) (subst (λ (d : Bool). Knows d field s held) de h))
  where
    go : (r : Spot) → HasRoom field.first field.last (Free k) r → Some a ≡ next_of field held cursor (Free k) r → (let z : SizeReached = record { columns = k; rows = free_length r; position = p } in IsKeptToo z s.positions.items later.positions.items) → AreReached field s held →
        AreReached field later (held ++ a ∷ [])
    go (At r) room e u h = absurd cc
    go (Free m) room e u h =
        let from = free_search_start (field_of field) (position_of cursor) in
        let place = found held (columns_of field) k m from in
        let same : a ≡ area_at place k m = cc in
        let start : from ≡ position_of (first_of field) = ap (λ (d : Bool). if d then record { column = field.first; row = field.row } else position_of cursor) de in
        let corner : position_of p ≡ found held (columns_of field) k m (position_of (first_of field)) =
        (λ i. record { column = (pc ∙ ap (λ (x : Area). x.columns.start) same) i; row = (pr ∙ ap (λ (x : Area). x.rows.start) same) i }) ∙ ap (found held (columns_of field) k m) start in
        let within = column_within (reach (length held)) held (columns_of field) k m (position_of (first_of field)) set.near (omega (arith, ints)) set.first room in
        let column : p.column ≡ (found held (columns_of field) k m (position_of (first_of field))).column = ap (λ (q : rules.Position). q.column) corner in
        let not_before = found_not_before held (columns_of field) k m (position_of (first_of field)) in
        let more = later_reach held a in
        let inside = (free_position_inside held (columns_of field) k m (position_of (first_of field)) (omega (arith, ints)) room).starts in
        record {
          lines = subst (λ (x : BTreeMap ((ℤ × ℤ) × ℕ) ℤ). RowsReached x field.row (held ++ a ∷ [])) (sym re) (rows_grow s.rows field.row held (a ∷ []) h.lines);
          positions = positions_put s.positions.items later.positions.items (record { columns = k; rows = m; position = p }) (columns_of field) (first_of field) (reach (length held)) (reach (length (held ++ a ∷ []))) held (a ∷ []) (omega (arith, ints)) more u
              (record {
                inside = omega (arith, ints);
                near = omega (arith, ints, within, more, column);
                after = subst (λ (q : rules.Position). NotAfter (position_of (first_of field)) q) (sym corner) not_before;
                before = λ fits. subst (λ (q : rules.Position). NotAfter q (found (held ++ a ∷ []) (columns_of field) k m (position_of (first_of field)))) (sym corner) (position_grows held (a ∷ []) (columns_of field) k m (position_of (first_of field)) (omega (arith, ints)) room);
              }) h.positions;
        }
