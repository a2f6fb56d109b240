-- The step of the items with a definite row.
use Rattle.std.proofs.Common.{arith, rules, ap, subst, ◌≡◌, ◌≤◌, ◌<◌, take, drop, set, get_or, refl, sym, ◌∙◌, true≢false, ℕ, ◌+◌, ℤ, pos, ◌+ℤ◌, ◌≤ℤ◌, Bool, true, false, List, [], ◌∷◌, ◌++◌, length, append_assoc}
use Rattle.std.specs.Prelude.{Option, Some, None, option_to_list, IsTrue, int_le, int_lt, unwrap_or}
use Rattle.std.specs.Option.{is_some}
use Rattle.std.specs.Map.{lookup}
use Rattle.std.specs.Ordering.{int_cmp}
use Rattle.std.specs.BTreeMap.{BTreeMap, IsEmpty, is_at}
use Rattle.std.proofs.lemmas.Int.{ints}
use Rattle.std.proofs.lemmas.List.{length-append, take_more_set, drop-set-lt}
use Rattle.lunit.specs.declared.geometry.Area.{Area}
use Rattle.lunit.specs.declared.geometry.Span.{Span}
use Rattle.lunit.specs.declared.geometry.Spot.{Spot}
use Rattle.lunit.specs.declared.geometry.Spot.TheVariants.{At, Free}
use Rattle.part_rules.specs.declared.wish.Wish.{Wish}
use Rattle.part_rules.specs.Placement as rules
use Rattle.part_rules.specs.Placement.{to_end, free_column, row_area, row_search_start, rows_placed, with_area}
use Rattle.grid_placement.specs.declared.entry.Entry.{Entry}
use Rattle.grid_placement.specs.Near.{AllEndBy}
use Rattle.grid_placement.specs.Entries.{all_seen, can_be_placed, count_in_rows, one_in_row, reach, rows_added, seen}
use Rattle.grid_placement.specs.declared.starts.RowStarts.{RowStarts}
use Rattle.grid_placement.specs.Reached.{across_cmp, line_reached}
use Rattle.grid_placement.specs.Starts.{AllBy, EndsBy, IsReady, IsRowStep, Keeps, line_at, start_at}
use Rattle.grid_placement.specs.Wishes.{is_placeable, is_within}
use Rattle.grid_placement.proofs.Near.{both_pass, ends_append, ends_later}
use Rattle.grid_placement.proofs.Least.{column_after, column_near}
use Rattle.grid_placement.proofs.Ends.{start_finds}
use Rattle.grid_placement.proofs.Begun.{next_of, seen_more}

-- The entries so far and those that are left, and what is taken.
pub record RowsSoFar (dense : Bool) (first : List Area) (all : List Entry) (held : List Area) (done left : List Entry) (starts : RowStarts) : Type 0 where
  pub mine : List Area
  pub entries : all_seen done ++ rows_placed dense held mine (all_seen left) ≡ rows_placed dense first [] (all_seen all)
  pub cells : held ++ rows_added dense held mine (all_seen left) ≡ first ++ rows_added dense first [] (all_seen all)
  pub kept : Keeps dense starts held mine
  pub ready : IsReady held starts
  pub fit : IsTrue (can_be_placed (all_seen left))
  pub room : length held + count_in_rows (all_seen left) ≤ 65536

-- so many areas are not past the farthest line
pub near_all : (held : List Area) → length held ≤ 65536 → AllEndBy (reach (length held)) held → AllEndBy (pos 1310805536) held
near_all held n h = ends_later (reach (length held)) (pos 1310805536) held (omega (arith, ints)) h

-- one more area is not past the next reach
pub near_more : (held : List Area) (a : Area) → AllEndBy (reach (length held)) held → a.columns.end ≤ℤ (reach (length held) +ℤ pos 20001) → a.rows.end ≤ℤ (reach (length held) +ℤ pos 20001) → AllEndBy (reach (length (held ++ a ∷ []))) (held ++ a ∷ [])
near_more held a h c r =
    let n : length (held ++ a ∷ []) ≡ length held + 1 = length-append held (a ∷ []) in
    subst (λ (m : ℕ). AllEndBy (reach m) (held ++ a ∷ [])) (sym n)
    (ends_append (reach (length held + 1)) held a (ends_later (reach (length held)) (reach (length held + 1)) held (omega (arith, ints)) h) (omega (arith, ints)) (omega (arith, ints)))

append_nothing : (held : List Area) → held ≡ held ++ []
append_nothing [] = refl
append_nothing (a ∷ held) = ap (λ (h : List Area). a ∷ h) (append_nothing held)

-- ---- one item

pub with_found : (wish : Wish) (area found is : Option Area) → is_some found ≡ true → found ≡ is
    → (let after : Entry = record { wish = wish; area = found } in let before : Entry = record { wish = wish; area = area } in seen after ≡ with_area (seen before) is)
with_found wish area found is h e =
    let before : Entry = record { wish = wish; area = area } in
    subst (λ (o : Option Area). (let after : Entry = record { wish = wish; area = found } in seen after ≡ with_area (seen before) o)) e (go found h)
  where
    go : (o : Option Area) → is_some o ≡ true → (let after : Entry = record { wish = wish; area = o } in let before : Entry = record { wish = wish; area = area } in seen after ≡ with_area (seen before) o)
    go None h = absurd (true≢false (sym h))
    go (Some a) h = refl

pub none_found : (e : rules.Entry) (found is : Option Area) → is_some found ≡ false → found ≡ is → e ≡ with_area e is
none_found e found is h f = subst (λ (o : Option Area). e ≡ with_area e o) f (go found h)
  where
    go : (o : Option Area) → is_some o ≡ false → e ≡ with_area e o
    go None h = refl
    go (Some a) h = absurd (true≢false h)

-- what is kept is by a line, so a place is found by it
place_by : (dense : Bool) (starts : RowStarts) (held mine : List Area) (k : ℕ) (rows : Span) (line : ℤ) → pos 0 ≤ℤ line → AllEndBy line held → AllBy line starts → Keeps dense starts held mine → free_column held k rows (row_search_start dense mine rows) ≤ℤ line
place_by dense starts held mine k rows line z near by h = subst (λ (c : ℤ). c ≤ℤ line) (start_finds dense starts held mine k rows h) (column_near line held k rows (start_at dense starts rows k) near (go dense))
  where
    go : (d : Bool) → start_at d starts rows k ≤ℤ line
    go true = by.reached rows k
    go false = by.ends rows.start

all_by_later : (line later : ℤ) (starts : RowStarts) → line ≤ℤ later → AllBy line starts → AllBy later starts
all_by_later line later starts l h = record { ends = λ row. let e = h.ends row in omega (arith, ints); reached = λ rows k. let e = h.reached rows k in omega (arith, ints) }

pub ready_after : (dense : Bool) (held mine : List Area) (column row : Spot) (starts now : RowStarts) → IsReady held starts → is_within column ≡ true → is_within row ≡ true → Keeps dense starts held mine
    → ((line : ℤ) → AllBy line starts → EndsBy line (row_area dense held mine column row) → AllBy line now) → IsReady (held ++ option_to_list (row_area dense held mine column row)) now
ready_after dense held mine (At c) row starts now s cf rf k h = subst (λ (x : List Area). IsReady x now) (append_nothing held) (record { near = s.near; kept = h (reach (length held)) s.kept tt })
ready_after dense held mine (Free k1) (Free l) starts now s cf rf k h = subst (λ (x : List Area). IsReady x now) (append_nothing held) (record { near = s.near; kept = h (reach (length held)) s.kept tt })
ready_after dense held mine (Free k1) (At rows) starts now s cf rf k h =
    let found = place_by dense starts held mine k1 rows (reach (length held)) (omega (arith, ints)) s.near s.kept k in
    let short : k1 ≤ 20000 = search rules in
    let ends_row = both_pass (int_lt rows.start rows.end) (int_le rows.end (pos 20000)) rf in
    let low : rows.end ≤ℤ pos 20000 = let t = ends_row.1 in search rules in
    let a : Area = record { columns = to_end (free_column held k1 rows (row_search_start dense mine rows)) k1; rows = rows } in
    let n : length (held ++ a ∷ []) ≡ length held + 1 = length-append held (a ∷ []) in
    let first : a.columns.start ≤ℤ reach (length (held ++ a ∷ [])) = omega (arith, ints) in
    let last : a.columns.end ≤ℤ reach (length (held ++ a ∷ [])) = omega (arith, ints) in record {
      near = near_more held a s.near (omega (arith, ints)) (omega (arith, ints));
      kept = h (reach (length (held ++ a ∷ []))) (all_by_later (reach (length held)) (reach (length (held ++ a ∷ []))) starts (omega (arith, ints)) s.kept) (first, last);
    }

-- ---- all items

one_added : (dense : Bool) (held mine : List Area) (column row : Spot) → length (option_to_list (row_area dense held mine column row)) ≡ one_in_row column row
one_added dense held mine (At c) row = refl
one_added dense held mine (Free k) (Free l) = refl
one_added dense held mine (Free k) (At rows) = refl

no_line : (starts : RowStarts) (row : ℤ) → IsEmpty starts.ends → line_at starts.ends row ≡ pos 0
no_line starts row e = ap (λ (es : List (ℤ × ℤ)). unwrap_or (lookup (is_at (int_cmp row)) es) (pos 0)) e

pub none_reached : (m : BTreeMap ((ℤ × ℤ) × ℕ) ℤ) (across : Span) (k : ℕ) (first : ℤ) → IsEmpty m → line_reached m across k first ≡ first
none_reached m across k first e = ap (λ (es : List (((ℤ × ℤ) × ℕ) × ℤ)). unwrap_or (lookup (is_at (across_cmp ((across.start, across.end), k))) es) first) e

pub rows_begin : (dense : Bool) (held : List Area) (all : List Entry) (starts : RowStarts) → AllEndBy (reach (length held)) held → IsEmpty starts.ends → IsEmpty starts.reached → IsTrue (can_be_placed (all_seen all)) → length held + count_in_rows (all_seen all) ≤ 65536
    → RowsSoFar dense held all held [] all starts
rows_begin dense held all starts near e f fit room = record {
  mine = [];
  entries = refl;
  cells = refl;
  kept = go dense;
  ready = record { near = near; kept = record { ends = λ row. let n = no_line starts row e in omega (arith, ints); reached = λ rows k. let n = none_reached starts.reached rows k (pos 0) f in omega (arith, ints) } };
  fit = fit;
  room = room;
}
  where
    go : (d : Bool) → Keeps d starts held []
    go true = record {
      low = λ rows k. let n = none_reached starts.reached rows k (pos 0) f in omega (arith, ints);
      each = λ rows k. let n = none_reached starts.reached rows k (pos 0) f in let c = column_after held k rows (pos 0) in omega (arith, ints);
    }
    go false = record { each = λ row. no_line starts row e }

pub rows_step : (dense : Bool) (first : List Area) (all : List Entry) (held now : List Area) (done left : List Entry) (before after : Entry) (ends later : RowStarts) (s : RowsSoFar dense first all held done (before ∷ left) ends)
    → IsRowStep dense held s.mine before after now later → IsReady now later → RowsSoFar dense first all now (done ++ after ∷ []) left later
rows_step dense first all held now done left before after ends later s t r =
    let area = row_area dense held s.mine before.wish.column before.wish.row in
    let one = one_added dense held s.mine before.wish.column before.wish.row in
    let parts = both_pass (is_placeable before.wish) (can_be_placed (all_seen left)) s.fit in
    let n : length now ≡ length held + length (option_to_list area) = ap length t.cells ∙ length-append held (option_to_list area) in
    let room = s.room in record {
      mine = s.mine ++ option_to_list area;
      entries = seen_more done after (rows_placed dense now (s.mine ++ option_to_list area) (all_seen left))
          ∙ (λ i. all_seen done ++ (t.entry i ∷ rows_placed dense (t.cells i) (s.mine ++ option_to_list area) (all_seen left))) ∙ s.entries;
      cells = (λ i. t.cells i ++ rows_added dense (t.cells i) (s.mine ++ option_to_list area) (all_seen left))
          ∙ append_assoc held (option_to_list area) (rows_added dense (held ++ option_to_list area) (s.mine ++ option_to_list area) (all_seen left)) ∙ s.cells;
      kept = t.kept;
      ready = r;
      fit = parts.1;
      room = omega (arith, n, one, room);
    }

-- ---- from the clauses of the code

pub row_step_is : (dense : Bool) (held mine now : List Area) (wish : Wish) (area found : Option Area) (ends later : RowStarts) → is_some found ≡ true → found ≡ row_area dense held mine wish.column wish.row
    → now ≡ held ++ option_to_list found → (found ≡ row_area dense held mine wish.column wish.row → Keeps dense later (held ++ option_to_list found) (mine ++ option_to_list found))
    → (let after : Entry = record { wish = wish; area = found } in let before : Entry = record { wish = wish; area = area } in IsRowStep dense held mine before after now later)
row_step_is dense held mine now wish area found ends later some r n k =
    let is = row_area dense held mine wish.column wish.row in record {
      entry = with_found wish area found is some r;
      cells = n ∙ (λ i. held ++ option_to_list (r i));
      kept = subst (λ (o : Option Area). Keeps dense later now (mine ++ option_to_list o)) r (subst (λ (x : List Area). Keeps dense later x (mine ++ option_to_list found)) (sym n) (k r));
    }

pub row_ready_is : (dense : Bool) (held mine now : List Area) (wish : Wish) (found : Option Area) (ends later : RowStarts) → IsReady held ends → IsTrue (is_placeable wish) → Keeps dense ends held mine → found ≡ row_area dense held mine wish.column wish.row
    → now ≡ held ++ option_to_list found → ((line : ℤ) → AllBy line ends → EndsBy line found → AllBy line later) → IsReady now later
row_ready_is dense held mine now wish found ends later s fit k r n h =
    let parts = both_pass (is_within wish.column) (is_within wish.row) fit in
    let is = row_area dense held mine wish.column wish.row in
    subst (λ (x : List Area). IsReady x later) (sym (n ∙ (λ i. held ++ option_to_list (r i))))
    (ready_after dense held mine wish.column wish.row ends later s parts.0 parts.1 k (λ line a e. h line a (subst (EndsBy line) (sym r) e)))

pub rows_more : (dense : Bool) (first : List Area) (all : List Entry) (held now : List Area) (es : List Entry) (i : ℕ) (d after : Entry) (ends later : RowStarts) → i < length es → RowsSoFar dense first all held (take i es) (drop i es) ends
    → ((mine : List Area) → Keeps dense ends held mine → IsRowStep dense held mine (get_or es i d) after now later) → ((mine : List Area) → Keeps dense ends held mine → IsReady now later)
    → RowsSoFar dense first all now (take (i + 1) (set es i after)) (drop (i + 1) (set es i after)) later
rows_more dense first all held now es i d after ends later less s step ready =
    let here : RowsSoFar dense first all held (take i es) (get_or es i d ∷ drop (i + 1) es) ends = subst (λ (l : List Entry). RowsSoFar dense first all held (take i es) l ends) (next_of es i d less) s in
    subst (λ (l : List Entry). RowsSoFar dense first all now l (drop (i + 1) (set es i after)) later) (sym (take_more_set es i after less))
    (subst (λ (l : List Entry). RowsSoFar dense first all now (take i es ++ after ∷ []) l later) (sym (drop-set-lt (i + 1) es i after (omega arith)))
    (rows_step dense first all held now (take i es) (drop (i + 1) es) (get_or es i d) after ends later here (step here.mine here.kept) (ready here.mine here.kept)))
