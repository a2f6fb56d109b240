-- The ends that are kept at the row starts.
use Rattle.std.proofs.Common.{arith, rules, ap, subst, ◌≡◌, refl, sym, ◌∙◌, true≢false, ℕ, ℤ, pos, ◌≤ℤ◌, Bool, true, false, cond, List, [], ◌∷◌, ◌++◌, map}
use Rattle.std.specs.Prelude.{Option, Some, option_to_list, unwrap_or, filter}
use Rattle.std.specs.Ordering.{int_cmp, int_eq}
use Rattle.std.specs.BTreeMap.{BTreeMap, Updates, get}
use Rattle.std.proofs.lemmas.Int.{ints, clamps}
use Rattle.std.proofs.lemmas.List.{map-append}
use Rattle.std.proofs.lemmas.List.Elements.{filter-append}
use Rattle.lunit.specs.declared.geometry.Area.{Area}
use Rattle.lunit.specs.declared.geometry.Span.{Span}
use Rattle.lunit.specs.declared.geometry.Spot.{Spot}
use Rattle.lunit.specs.declared.geometry.Spot.TheVariants.{At, Free}
use Rattle.part_rules.specs.Lists.{greatest_with}
use Rattle.part_rules.specs.Placement.{to_end, free_column, free_length, row_area, row_search_start}
use Rattle.grid_placement.specs.declared.starts.RowStarts.{RowStarts}
use Rattle.grid_placement.specs.Reached.{ColumnsReached, across_cmp, line_reached}
use Rattle.grid_placement.specs.Starts.{line_at, start_at, end_in, AreEnds, Keeps, EndsBy, AllBy}
use Rattle.grid_placement.proofs.Least.{column_after}
use Rattle.grid_placement.proofs.LinesReached.{column_from_reached, columns_put, put_line}

greatest_more : (x z : ℤ) (ys : List ℤ) → greatest_with x ys ≤ℤ z → greatest_with x (ys ++ z ∷ []) ≡ z
greatest_more x z [] h = omega (arith, ints, clamps)
greatest_more x z (y ∷ ys) h = let r = greatest_more x z ys (omega (arith, ints, clamps)) in omega (arith, ints, clamps)

-- one more area, which begins in the row or does not
end_more : (mine : List Area) (a : Area) (row : ℤ) (b : Bool) → int_eq a.rows.start row ≡ b → end_in (mine ++ a ∷ []) row ≡ (greatest_with (pos 0) (map (λ (x : Area). x.columns.end) (filter (λ (x : Area). int_eq x.rows.start row) mine) ++ map (λ (x : Area). x.columns.end) (cond b (a ∷ []) [])))
end_more mine a row b e =
    ap (λ (xs : List Area). greatest_with (pos 0) (map (λ (x : Area). x.columns.end) xs)) (filter-append (λ (x : Area). int_eq x.rows.start row) mine (a ∷ []))
    ∙ ap (λ (xs : List ℤ). greatest_with (pos 0) xs) (map-append (λ (x : Area). x.columns.end) (filter (λ (x : Area). int_eq x.rows.start row) mine) (filter (λ (x : Area). int_eq x.rows.start row) (a ∷ [])))
    ∙ ap (λ (c : Bool). greatest_with (pos 0) (map (λ (x : Area). x.columns.end) (filter (λ (x : Area). int_eq x.rows.start row) mine) ++ map (λ (x : Area). x.columns.end) (cond c (a ∷ []) []))) e

append_none : (xs : List ℤ) → xs ++ [] ≡ xs
append_none [] = refl
append_none (x ∷ xs) = ap (λ (ys : List ℤ). x ∷ ys) (append_none xs)

int_same : (x y : ℤ) → int_eq x y ≡ true → x ≡ y
int_same x y e = search rules

kept_end : (m n : BTreeMap ℤ ℤ) (mine : List Area) (a : Area) → Updates int_cmp m n a.rows.start (Some a.columns.end) → AreEnds m mine → end_in mine a.rows.start ≤ℤ a.columns.end → AreEnds n (mine ++ a ∷ [])
kept_end m n mine a u h late = record { each = λ row. go row (int_eq a.rows.start row) refl }
  where
    go : (row : ℤ) (b : Bool) → int_eq a.rows.start row ≡ b → line_at n row ≡ end_in (mine ++ a ∷ []) row
    go row true e =
        let same : a.rows.start ≡ row = int_same a.rows.start row e in
        ap (λ o. unwrap_or o (pos 0)) (u.0 row) ∙ ap (λ (c : Bool). unwrap_or (cond c (Some a.columns.end) (get int_cmp m row)) (pos 0)) e
        ∙ sym (end_more mine a row true e ∙ greatest_more (pos 0) a.columns.end (map (λ (x : Area). x.columns.end) (filter (λ (x : Area). int_eq x.rows.start row) mine)) (subst (λ (r : ℤ). end_in mine r ≤ℤ a.columns.end) same late))
    go row false e =
        ap (λ o. unwrap_or o (pos 0)) (u.2 row e) ∙ h.each row
        ∙ sym (end_more mine a row false e ∙ ap (λ (xs : List ℤ). greatest_with (pos 0) xs) (append_none (map (λ (x : Area). x.columns.end) (filter (λ (x : Area). int_eq x.rows.start row) mine))))

-- in sparse mode an area ends at or after those that begin in its row
row_ends : (held mine : List Area) (column row : Spot) (a : Area) → Some a ≡ row_area false held mine column row → end_in mine a.rows.start ≤ℤ a.columns.end
row_ends held mine (At c) row a e = absurd cc
row_ends held mine (Free k) (Free l) a e = absurd cc
row_ends held mine (Free k) (At rows) a e =
    let is : Area = record { columns = to_end (free_column held k rows (end_in mine rows.start)) k; rows = rows } in
    let same : is ≡ a = cc in
    let h = column_after held k rows (end_in mine rows.start) in
    subst (λ (x : Area). end_in mine x.rows.start ≤ℤ x.columns.end) same (omega (arith, ints))

pub keep_sparse : (dense : Bool) (s later : RowStarts) (held mine : List Area) (column row : Spot) (area : Option Area) (a : Area) (k v : ℤ) → area ≡ Some a → dense ≡ false → k ≡ a.rows.start → v ≡ a.columns.end
    → Updates int_cmp s.ends later.ends k (Some v) → Keeps dense s held mine → area ≡ row_area dense held mine column row → Keeps dense later (held ++ option_to_list area) (mine ++ option_to_list area)
keep_sparse true s later held mine column row area a k v e f ke ve u h r = absurd (true≢false f)
keep_sparse false s later held mine column row area a k v e f ke ve u h r =
    subst (λ (o : Option Area). AreEnds later.ends (mine ++ option_to_list o)) (sym e)
    (kept_end s.ends later.ends mine a (subst (λ (x : ℤ). Updates int_cmp s.ends later.ends a.rows.start (Some x)) ve (subst (λ (x : ℤ). Updates int_cmp s.ends later.ends x (Some v)) ke u)) h (row_ends held mine column row a (sym e ∙ r)))

dense_put : (m n : BTreeMap ((ℤ × ℤ) × ℕ) ℤ) (held mine : List Area) (column row : Spot) (a : Area) (v : ℤ) → Some a ≡ row_area true held mine column row → v ≡ a.columns.start → Updates across_cmp m n ((a.rows.start, a.rows.end), free_length column) (Some v) → ColumnsReached m held →
    ColumnsReached n (held ++ a ∷ [])
dense_put m n held mine (At c) row a v e ve u h = absurd cc
dense_put m n held mine (Free k) (Free l) a v e ve u h = absurd cc
dense_put m n held mine (Free k) (At rows) a v e ve u h =
    let is : Area = record { columns = to_end (free_column held k rows (pos 0)) k; rows = rows } in
    let same : a ≡ is = cc in
    let start : a.columns.start ≡ free_column held k rows (pos 0) = ap (λ (x : Area). x.columns.start) same in
    let line : v ≡ free_column held k rows (pos 0) = omega (arith, ints) in
    columns_put m n held (a ∷ []) rows k v (subst (λ (r : Span). Updates across_cmp m n ((r.start, r.end), k) (Some v)) (ap (λ (x : Area). x.rows) same) u) h line

pub keep_dense : (dense : Bool) (s later : RowStarts) (held mine : List Area) (column row : Spot) (area : Option Area) (a : Area) (k : ℕ) (v : ℤ) → area ≡ Some a → dense ≡ true → k ≡ free_length column → v ≡ a.columns.start
    → Updates across_cmp s.reached later.reached ((a.rows.start, a.rows.end), k) (Some v) → Keeps dense s held mine → area ≡ row_area dense held mine column row → Keeps dense later (held ++ option_to_list area) (mine ++ option_to_list area)
keep_dense false s later held mine column row area a k v e f ke ve u h r = absurd (true≢false (sym f))
keep_dense true s later held mine column row area a k v e f ke ve u h r =
    subst (λ (o : Option Area). ColumnsReached later.reached (held ++ option_to_list o)) (sym e)
    (dense_put s.reached later.reached held mine column row a v (sym e ∙ r) ve (subst (λ (x : ℕ). Updates across_cmp s.reached later.reached ((a.rows.start, a.rows.end), x) (Some v)) ke u) h)

pub by_sparse : (s later : RowStarts) (area : Option Area) (a : Area) (k v line : ℤ) → area ≡ Some a → v ≡ a.columns.end → later.reached ≡ s.reached → Updates int_cmp s.ends later.ends k (Some v) → AllBy line s → EndsBy line area → AllBy line later
by_sparse s later area a k v line e ve re u h f = record {
  ends = λ row. go row (int_eq k row) refl;
  reached = λ rows j. subst (λ (m : BTreeMap ((ℤ × ℤ) × ℕ) ℤ). line_reached m rows j (pos 0) ≤ℤ line) (sym re) (h.reached rows j);
}
  where
    go : (row : ℤ) (b : Bool) → int_eq k row ≡ b → line_at later.ends row ≤ℤ line
    go row true t =
        let low = subst (λ (o : Option Area). EndsBy line o) e f in
        let end = low.1 in
        let is : line_at later.ends row ≡ v = ap (λ o. unwrap_or o (pos 0)) (u.0 row) ∙ ap (λ (c : Bool). unwrap_or (cond c (Some v) (get int_cmp s.ends row)) (pos 0)) t in
        omega (arith, ints)
    go row false t =
        let is : line_at later.ends row ≡ line_at s.ends row = ap (λ o. unwrap_or o (pos 0)) (u.2 row t) in
        let low = h.ends row in
        omega (arith, ints)

pub by_dense : (s later : RowStarts) (area : Option Area) (a : Area) (k : ℕ) (v line : ℤ) → area ≡ Some a → v ≡ a.columns.start → later.ends ≡ s.ends → Updates across_cmp s.reached later.reached ((a.rows.start, a.rows.end), k) (Some v) → AllBy line s → EndsBy line area → AllBy line later
by_dense s later area a k v line e ve re u h f =
    let low = subst (λ (o : Option Area). EndsBy line o) e f in
    let start = low.0 in record {
      ends = λ row. subst (λ (m : BTreeMap ℤ ℤ). line_at m row ≤ℤ line) (sym re) (h.ends row);
      reached = put_line s.reached later.reached a.rows k v (pos 0) (λ x b j. x ≤ℤ line) u (omega (arith, ints)) h.reached;
    }

-- where the area is that of the rules
pub start_finds : (dense : Bool) (s : RowStarts) (held mine : List Area) (k : ℕ) (rows : Span) → Keeps dense s held mine → free_column held k rows (start_at dense s rows k) ≡ free_column held k rows (row_search_start dense mine rows)
start_finds true s held mine k rows h = column_from_reached s.reached held k rows h
start_finds false s held mine k rows h = ap (free_column held k rows) (h.each rows.start)

pub row_area_is : (dense : Bool) (s : RowStarts) (held mine : List Area) (column row : Spot) (k : ℕ) (rows columns : Span) (x start : ℤ) → column ≡ Free k → row ≡ At rows → start ≡ start_at dense s rows k → columns ≡ to_end (free_column held k rows x) k → x ≡ start
    → Keeps dense s held mine → Some (record { columns = columns; rows = rows }) ≡ row_area dense held mine column row
row_area_is dense s held mine column row k rows columns x start ce re se e xe h =
    subst (λ (c : Spot). Some (record { columns = columns; rows = rows }) ≡ row_area dense held mine c row) (sym ce)
    (subst (λ (r : Spot). Some (record { columns = columns; rows = rows }) ≡ row_area dense held mine (Free k) r) (sym re)
    (λ i. Some (record { columns = (e ∙ (λ j. to_end ((ap (free_column held k rows) (xe ∙ se) ∙ start_finds dense s held mine k rows h) j) k)) i; rows = rows })))
