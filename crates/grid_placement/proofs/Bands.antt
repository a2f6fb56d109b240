-- Items of one height that are free in both axes, in sparse mode: they fill bands of rows, as the search finds them.
use Rattle.std.proofs.Common.{arith, rules, ap, subst, append_assoc, ◌≡◌, ◌≤◌, refl, sym, ◌∙◌, true≢false, ℕ, ◌+◌, ◌*◌, max, ℤ, pos, ◌+ℤ◌, ◌≤ℤ◌, ◌<ℤ◌, ◌⊎◌, inl, inr, Bool, true, false, not, ◌&&◌, ◌||◌, int_lt, int_le, List, [], ◌∷◌, ◌++◌, map, if◌then◌else◌}
use Rattle.std.specs.Prelude.{◌==◌, IsTrue, flat_map, nat_le, unwrap_or}
use Rattle.std.specs.Int.{int_max, int_min}
use Rattle.std.proofs.lemmas.Bool.{eqb-true}
use Rattle.std.proofs.lemmas.Int.{ints, clamps}
use Rattle.std.proofs.lemmas.List.Folds.{list_all-append}
use Rattle.lunit.specs.Areas.{is_free, areas_overlap, spans_overlap}
use Rattle.lunit.specs.declared.geometry.Area.{Area}
use Rattle.lunit.specs.declared.geometry.Span.{Span}
use Rattle.lunit.specs.declared.geometry.Spot.{Spot}
use Rattle.lunit.specs.declared.geometry.Spot.TheVariants.{At, Free}
use Rattle.part_rules.specs.declared.wish.Wish.{Wish}
use Rattle.part_rules.specs.declared.wish.Shape.{Shape}
use Rattle.part_rules.specs.Placement as rules
use Rattle.part_rules.specs.Placement.{Position, area_at, areas_of, begun, columns_for, definite_span, first_row, free_length, greatest_waiting, no_area, placed, placed_by_rows, range_of, rest_placed, rows_placed, to_end}
use Rattle.part_rules.proofs.Placed.{free_position_free, free_position_inside}
use Rattle.grid_placement.specs.Heights.{area_after, has_height, have_height, in_bands, widest}
use Rattle.grid_placement.specs.Reached.{NotAfter}
use Rattle.grid_placement.specs.Wishes.{are_placeable, area_in_flow, explicit_columns, explicit_rows, is_placeable, wish_in_flow}
use Rattle.grid_placement.proofs.Near.{both_pass}
use Rattle.grid_placement.proofs.Positions.{found, found_not_before, not_earlier, same_position}
use Rattle.grid_placement.proofs.Whole.{in_flow}

-- ---- the position that is found

-- the one position is before the other
abbrev IsBefore : Position → Position → Type 0
IsBefore p q = (p.row <ℤ q.row) ⊎ ((p.row ≡ q.row) × (p.column <ℤ q.column))

-- A free position is found where no position before it is free.
found_is : (held : List Area) (columns : Span) (k l : ℕ) (from q : Position) → columns.start ≤ℤ from.column → (columns.start +ℤ pos k) ≤ℤ columns.end → NotAfter from q → columns.start ≤ℤ q.column → (q.column +ℤ pos k) ≤ℤ columns.end → is_free (area_at q k l) held ≡ true
    → ((p : Position) → NotAfter from p → columns.start ≤ℤ p.column → (p.column +ℤ pos k) ≤ℤ columns.end → IsBefore p q → is_free (area_at p k l) held ≡ false) → found held columns k l from ≡ q
found_is held columns k l from q low fits after starts ends free taken = same_position (found held columns k l from) q late early
  where
    late : NotAfter (found held columns k l from) q
    late = not_earlier held columns k l from q after starts ends free

    none : IsBefore (found held columns k l from) q → ⊥
    none b =
        let inside = free_position_inside held columns k l from low fits in
        true≢false (sym (free_position_free held columns k l from) ∙ taken (found held columns k l from) (found_not_before held columns k l from) inside.starts inside.ends b)

    in_rows : (t : Bool) → int_lt (found held columns k l from).row q.row ≡ t → q.row ≤ℤ (found held columns k l from).row
    in_rows true t = absurd (none (inl (search rules)))
    in_rows false t = search rules

    in_columns : (found held columns k l from).row ≤ℤ q.row → (t : Bool) → int_lt (found held columns k l from).column q.column ≡ t → q.column ≤ℤ (found held columns k l from).column
    in_columns h true t =
        let r = in_rows (int_lt (found held columns k l from).row q.row) refl in
        absurd (none (inr (omega (arith, ints), search rules)))
    in_columns h false t = search rules

    early : NotAfter q (found held columns k l from)
    early = record {
      rows = in_rows (int_lt (found held columns k l from).row q.row) refl;
      columns = λ h. in_columns h (int_lt (found held columns k l from).column q.column) refl;
    }

-- ---- a band of rows

-- the first columns of so many rows, up to a column
abbrev band : ℤ → ℤ → ℕ → Area
band x r l = record { columns = record { start = pos 0; end = x }; rows = to_end r l }

-- From its first row on the cells of a band are taken, and no other ones.
pub record IsBand (held : List Area) (x r : ℤ) (l : ℕ) : Type 0 where
  pub low : pos 0 ≤ℤ x
  pub free : (a : Area) → r ≤ℤ a.rows.start → is_free a held ≡ not (areas_overlap a (band x r l))

and_true : (t : Bool) → (t && true) ≡ t
and_true true = refl
and_true false = refl

free_more : (a : Area) (held : List Area) (b : Area) → is_free a (held ++ b ∷ []) ≡ (is_free a held && not (areas_overlap a b))
free_more a held b = list_all-append (λ c. not (areas_overlap a c)) held (b ∷ []) ∙ ap (λ (t : Bool). is_free a held && t) (and_true (not (areas_overlap a b)))

-- a span with so many tracks more
longer : (a : Span) (x : ℤ) (k : ℕ) → pos 0 ≤ℤ x → spans_overlap a (record { start = pos 0; end = x +ℤ pos k }) ≡ (spans_overlap a (record { start = pos 0; end = x }) || spans_overlap a (to_end x k))
longer a x k low = by (spans_overlap a (record { start = pos 0; end = x +ℤ pos k })) refl (spans_overlap a (record { start = pos 0; end = x })) refl (spans_overlap a (to_end x k)) refl
  where
    by : (p : Bool) → spans_overlap a (record { start = pos 0; end = x +ℤ pos k }) ≡ p → (q : Bool) → spans_overlap a (record { start = pos 0; end = x }) ≡ q → (s : Bool) → spans_overlap a (to_end x k) ≡ s → p ≡ (q || s)
    by true e true f s g = refl
    by true e false f true g = refl
    by true e false f false g =
        let p : int_max a.start (pos 0) <ℤ int_min a.end (x +ℤ pos k) = search rules in
        let q : int_min a.end x ≤ℤ int_max a.start (pos 0) = search rules in
        let s : int_min a.end (x +ℤ pos k) ≤ℤ int_max a.start x = search rules in
        absurd (omega (arith, ints, clamps))
    by false e true f s g =
        let p : int_min a.end (x +ℤ pos k) ≤ℤ int_max a.start (pos 0) = search rules in
        let q : int_max a.start (pos 0) <ℤ int_min a.end x = search rules in
        absurd (omega (arith, ints, clamps))
    by false e false f true g =
        let p : int_min a.end (x +ℤ pos k) ≤ℤ int_max a.start (pos 0) = search rules in
        let s : int_max a.start x <ℤ int_min a.end (x +ℤ pos k) = search rules in
        absurd (omega (arith, ints, clamps))
    by false e false f false g = refl

apart : (u v w : Bool) → (not (u && w) && not (v && w)) ≡ not ((u || v) && w)
apart true true true = refl
apart true true false = refl
apart true false true = refl
apart true false false = refl
apart false true true = refl
apart false true false = refl
apart false false true = refl
apart false false false = refl

-- the band with an area at its end
band_goes_on : (held : List Area) (x r : ℤ) (k l : ℕ) → IsBand held x r l → IsBand (held ++ area_at (record { column = x; row = r }) k l ∷ []) (x +ℤ pos k) r l
band_goes_on held x r k l s =
    let low = s.low in record {
      low = omega (arith, ints);
      free = λ a h.
          let b : Area = area_at (record { column = x; row = r }) k l in
          free_more a held b
          ∙ ap (λ (t : Bool). t && not (areas_overlap a b)) (s.free a h)
          ∙ apart (spans_overlap a.columns (record { start = pos 0; end = x })) (spans_overlap a.columns (to_end x k)) (spans_overlap a.rows (to_end r l))
          ∙ ap (λ (t : Bool). not (t && spans_overlap a.rows (to_end r l))) (sym (longer a.columns x k low));
    }

-- an area in rows after the band
below_band : (a : Area) (x r : ℤ) (l : ℕ) → (r +ℤ pos l) ≤ℤ a.rows.start → areas_overlap a (band x r l) ≡ false
below_band a x r l h = by (spans_overlap a.columns (record { start = pos 0; end = x })) (spans_overlap a.rows (to_end r l)) refl
  where
    by : (u v : Bool) → spans_overlap a.rows (to_end r l) ≡ v → (u && v) ≡ false
    by true true e =
        let o : int_max a.rows.start r <ℤ int_min a.rows.end (r +ℤ pos l) = search rules in
        absurd (omega (arith, ints, clamps))
    by true false e = refl
    by false v e = refl

-- an area in columns after the band
beside_band : (a : Area) (x r : ℤ) (l : ℕ) → x ≤ℤ a.columns.start → areas_overlap a (band x r l) ≡ false
beside_band a x r l h = by (spans_overlap a.columns (record { start = pos 0; end = x })) refl (spans_overlap a.rows (to_end r l))
  where
    by : (u : Bool) → spans_overlap a.columns (record { start = pos 0; end = x }) ≡ u → (v : Bool) → (u && v) ≡ false
    by true e v =
        let o : int_max a.columns.start (pos 0) <ℤ int_min a.columns.end x = search rules in
        absurd (omega (arith, ints, clamps))
    by false e v = refl

-- an area at the first column, below the band, begins a new one
band_begins : (held : List Area) (x r : ℤ) (k l : ℕ) → IsBand held x r l → IsBand (held ++ area_at (record { column = pos 0; row = r +ℤ pos l }) k l ∷ []) (pos 0 +ℤ pos k) (r +ℤ pos l) l
band_begins held x r k l s = record {
  low = omega (arith, ints);
  free = λ a h.
      let b : Area = area_at (record { column = pos 0; row = r +ℤ pos l }) k l in
      free_more a held b
      ∙ ap (λ (t : Bool). t && not (areas_overlap a b)) (s.free a (omega (arith, ints)) ∙ ap not (below_band a x r l h));
}

-- a position in the band is not free
in_band : (held : List Area) (x r : ℤ) (k l : ℕ) (p : Position) → IsBand held x r l → 1 ≤ k → 1 ≤ l → r ≤ℤ p.row → p.row <ℤ (r +ℤ pos l) → pos 0 ≤ℤ p.column → p.column <ℤ x → is_free (area_at p k l) held ≡ false
in_band held x r k l p s kh lh r0 r1 c0 c1 = s.free (area_at p k l) r0 ∙ ap not both
  where
    columns : spans_overlap (to_end p.column k) (record { start = pos 0; end = x }) ≡ true
    columns =
        let o : int_max p.column (pos 0) <ℤ int_min (p.column +ℤ pos k) x = omega (arith, ints, clamps) in
        search rules

    rows : spans_overlap (to_end p.row l) (to_end r l) ≡ true
    rows =
        let o : int_max p.row r <ℤ int_min (p.row +ℤ pos l) (r +ℤ pos l) = omega (arith, ints, clamps) in
        search rules

    both : areas_overlap (area_at p k l) (band x r l) ≡ true
    both = λ i. columns i && rows i

-- ---- the next item

-- The item stands beside the last one where it does not pass the last column.
found_beside : (held : List Area) (last x r : ℤ) (k l : ℕ) (from : Position) → IsBand held x r l → 1 ≤ k → 1 ≤ l → (x +ℤ pos k) ≤ℤ last → pos 0 ≤ℤ from.column → from.column ≤ℤ x → from.row ≡ r
    → found held (record { start = pos 0; end = last }) k l from ≡ record { column = x; row = r }
found_beside held last x r k l from s kh lh fits c0 c1 e =
    let q : Position = record { column = x; row = r } in
    let low = s.low in
    found_is held (record { start = pos 0; end = last }) k l from q c0 (omega (arith, ints)) (record { rows = omega (arith, ints); columns = λ h. c1 }) low fits
    (s.free (area_at q k l) (omega (arith, ints)) ∙ ap not (beside_band (area_at q k l) x r l (omega (arith, ints)))) taken
  where
    taken : (p : Position) → NotAfter from p → pos 0 ≤ℤ p.column → (p.column +ℤ pos k) ≤ℤ last → IsBefore p (record { column = x; row = r }) → is_free (area_at p k l) held ≡ false
    taken p a c d (inl b) = let n = a.rows in absurd (omega (arith, ints))
    taken p a c d (inr b) =
        let b0 = b.0 in
        let b1 = b.1 in
        in_band held x r k l p s kh lh (omega (arith, ints)) (omega (arith, ints)) c b1

-- Else it stands at the first column, below the band.
found_below : (held : List Area) (last x r : ℤ) (k l : ℕ) (from : Position) → IsBand held x r l → 1 ≤ k → 1 ≤ l → pos k ≤ℤ last → last <ℤ (x +ℤ pos k) → pos 0 ≤ℤ from.column → from.row ≡ r
    → found held (record { start = pos 0; end = last }) k l from ≡ record { column = pos 0; row = r +ℤ pos l }
found_below held last x r k l from s kh lh fits past c0 e =
    let q : Position = record { column = pos 0; row = r +ℤ pos l } in
    found_is held (record { start = pos 0; end = last }) k l from q c0 (omega (arith, ints)) (record { rows = omega (arith, ints); columns = λ h. absurd (omega (arith, ints)) }) (omega (arith, ints)) (omega (arith, ints))
    (s.free (area_at q k l) (omega (arith, ints)) ∙ ap not (below_band (area_at q k l) x r l (omega (arith, ints)))) taken
  where
    taken : (p : Position) → NotAfter from p → pos 0 ≤ℤ p.column → (p.column +ℤ pos k) ≤ℤ last → IsBefore p (record { column = pos 0; row = r +ℤ pos l }) → is_free (area_at p k l) held ≡ false
    taken p a c d (inl b) =
        let n = a.rows in
        in_band held x r k l p s kh lh (omega (arith, ints)) b c (omega (arith, ints))
    taken p a c d (inr b) = let b1 = b.1 in absurd (omega (arith, ints))

-- ---- the items, told by their widths

abbrev of_size : ℕ → ℕ → Wish
of_size l k = record { column = Free k; row = Free l }

abbrev entries : ℕ → List ℕ → List rules.Entry
entries l ks = map begun (map (of_size l) ks)

-- each is of a column at least and of no more than there are
abbrev AreNarrow : ℤ → List ℕ → Type 0
AreNarrow last [] = Unit {0}
AreNarrow last (k ∷ ks) = ((1 ≤ k) × (pos k ≤ℤ last)) × AreNarrow last ks

abbrev in_columns_of : ℤ → rules.Field
in_columns_of last = record { columns = record { start = pos 0; end = last }; first = pos 0; dense = false }

abbrev shown : List rules.Entry → List Area
shown es = map (λ (e : rules.Entry). unwrap_or e.area no_area) es

-- The items that are left fill bands.
bands_from : (last : ℤ) (l : ℕ) (ks : List ℕ) (held : List Area) (x r : ℤ) (from : Position) → 1 ≤ l → AreNarrow last ks → IsBand held x r l → pos 0 ≤ℤ from.column → from.column ≤ℤ x → from.row ≡ r
    → shown (rest_placed (in_columns_of last) held from (entries l ks)) ≡ in_bands last x r (map (of_size l) ks)
bands_from last l [] held x r from lh n s c0 c1 e = refl
bands_from last l (k ∷ ks) held x r from lh n s c0 c1 e = by (λ held2 x2 r2 from2 s2 low high same. bands_from last l ks held2 x2 r2 from2 lh n.1 s2 low high same) (int_le (x +ℤ pos k) last) refl
  where
    after : Position → List Area
    after q = area_at q k l ∷ shown (rest_placed (in_columns_of last) (held ++ area_at q k l ∷ []) q (entries l ks))

    by : ((held2 : List Area) (x2 r2 : ℤ) (from2 : Position) → IsBand held2 x2 r2 l → pos 0 ≤ℤ from2.column → from2.column ≤ℤ x2 → from2.row ≡ r2 → shown (rest_placed (in_columns_of last) held2 from2 (entries l ks)) ≡ in_bands last x2 r2 (map (of_size l) ks))
        → (t : Bool) → int_le (x +ℤ pos k) last ≡ t → shown (rest_placed (in_columns_of last) held from (entries l (k ∷ ks)))
        ≡ (let a = if t then area_at (record { column = x; row = r }) k l else area_at (record { column = pos 0; row = r +ℤ pos l }) k l in a ∷ in_bands last a.columns.end a.rows.start (map (of_size l) ks))
    by later true t =
        let q : Position = record { column = x; row = r } in
        let low = s.low in
        let fits : (x +ℤ pos k) ≤ℤ last = search rules in
        ap after (found_beside held last x r k l from s n.0.0 lh fits c0 c1 e)
        ∙ ap (λ (areas : List Area). area_at q k l ∷ areas) (later (held ++ area_at q k l ∷ []) (x +ℤ pos k) r q (band_goes_on held x r k l s) low (omega (arith, ints)) refl)
    by later false t =
        let q : Position = record { column = pos 0; row = r +ℤ pos l } in
        let past : last <ℤ (x +ℤ pos k) = search rules in
        ap after (found_below held last x r k l from s n.0.0 lh n.0.1 past c0 e)
        ∙ ap (λ (areas : List Area). area_at q k l ∷ areas) (later (held ++ area_at q k l ∷ []) (pos 0 +ℤ pos k) (r +ℤ pos l) q (band_begins held x r k l s) (omega (arith, ints)) (omega (arith, ints)) refl)

rows_none : (dense : Bool) (l : ℕ) (held mine : List Area) (ks : List ℕ) → rows_placed dense held mine (entries l ks) ≡ entries l ks
rows_none dense l held mine [] = refl
rows_none dense l held mine (k ∷ ks) = ap (λ (es : List rules.Entry). begun (of_size l k) ∷ es) (rows_none dense l (held ++ []) (mine ++ []) ks)

areas_none : (l : ℕ) (ks : List ℕ) → areas_of (entries l ks) ≡ []
areas_none l [] = refl
areas_none l (k ∷ ks) = areas_none l ks

columns_none : (l : ℕ) (ks : List ℕ) → flat_map (λ (e : rules.Entry). definite_span e.wish.column) (entries l ks) ≡ []
columns_none l [] = refl
columns_none l (k ∷ ks) = columns_none l ks

rows_free : (l : ℕ) (ks : List ℕ) → flat_map (λ (e : rules.Entry). definite_span e.wish.row) (entries l ks) ≡ []
rows_free l [] = refl
rows_free l (k ∷ ks) = rows_free l ks

none_held : (l : ℕ) → IsBand [] (pos 0) (pos 0) l
none_held l = record { low = omega (arith, ints); free = λ a h. by a (spans_overlap a.columns (record { start = pos 0; end = pos 0 })) refl (spans_overlap a.rows (to_end (pos 0) l)) }
  where
    by : (a : Area) (u : Bool) → spans_overlap a.columns (record { start = pos 0; end = pos 0 }) ≡ u → (v : Bool) → true ≡ not (u && v)
    by a true e v =
        let o : int_max a.columns.start (pos 0) <ℤ int_min a.columns.end (pos 0) = search rules in
        absurd (omega (arith, ints, clamps))
    by a false e v = refl

-- ---- the items as they come

has_size : (l : ℕ) (column row : Spot) → has_height l column row ≡ true → (let w : Wish = record { column = column; row = row } in w ≡ of_size l (free_length column)) × (1 ≤ free_length column)
has_size l (At c) row e = absurd (true≢false (sym e))
has_size l (Free k) (At r) e = absurd (true≢false (sym e))
has_size l (Free k) (Free m) e =
    let parts = both_pass (nat_le 1 k) (m == l) e in
    let some : 1 ≤ k = let t = parts.0 in search rules in
    (ap (λ (n : ℕ). record { column = Free k; row = Free n }) (eqb-true m l parts.1), some)

-- the widths of items
abbrev widths : Bool → List Wish → List ℕ
widths flow items = map (λ (w : Wish). free_length (wish_in_flow flow w).column) items

record AreSized (last : ℤ) (flow : Bool) (l : ℕ) (items : List Wish) : Type 0 where
  same : map (wish_in_flow flow) items ≡ map (of_size l) (widths flow items)
  narrow : AreNarrow last (widths flow items)
  waiting : greatest_waiting (entries l (widths flow items)) ≡ widest flow items

sized : (last : ℤ) (flow : Bool) (l : ℕ) (items : List Wish) → have_height flow l items ≡ true → pos (widest flow items) ≤ℤ last → AreSized last flow l items
sized last flow l [] e h = record { same = refl; narrow = tt; waiting = refl }
sized last flow l (w ∷ ws) e h =
    let v = wish_in_flow flow w in
    let parts = both_pass (has_height l v.column v.row) (have_height flow l ws) e in
    let one = has_size l v.column v.row parts.0 in
    let rest = sized last flow l ws parts.1 (omega (arith, ints, clamps, h)) in
    record {
      same = λ i. one.0 i ∷ rest.same i;
      narrow = ((one.1, omega (arith, ints, clamps, h)), rest.narrow);
      waiting = ap (λ (n : ℕ). max (free_length v.column) n) rest.waiting;
    }

columns_wide : (columns l : ℕ) (ks : List ℕ) → columns_for columns (entries l ks) ≡ record { start = pos 0; end = int_max (pos columns) (pos (greatest_waiting (entries l ks))) }
columns_wide columns l ks =
    let none : flat_map (λ (e : rules.Entry). definite_span e.wish.column) (entries l ks) ++ map (λ (a : Area). a.columns) (areas_of (entries l ks)) ≡ [] = λ i. columns_none l ks i ++ map (λ (a : Area). a.columns) (areas_none l ks i) in
    let zero : 0 + greatest_waiting (entries l ks) ≡ greatest_waiting (entries l ks) = omega arith in
    (λ i. record { start = (range_of columns (none i)).start; end = int_max (range_of columns (none i)).end ((range_of columns (none i)).start +ℤ pos (greatest_waiting (entries l ks))) })
    ∙ (λ i. record { start = pos 0; end = int_max (pos columns) (pos (zero i)) })

first_none : (rows l : ℕ) (ks : List ℕ) → first_row rows (entries l ks) ≡ pos 0
first_none rows l ks = λ i. (range_of rows (rows_free l ks i ++ map (λ (a : Area). a.rows) (areas_none l ks i))).start

-- Items of these widths are placed in bands.
by_widths : (columns rows : ℕ) (l : ℕ) (ks : List ℕ) (last : ℤ) → 1 ≤ l → last ≡ int_max (pos columns) (pos (greatest_waiting (entries l ks))) → AreNarrow last ks
    → in_bands last (pos 0) (pos 0) (map (of_size l) ks) ≡ placed_by_rows columns rows false (map (of_size l) ks)
unfolding placed_by_rows
by_widths columns rows l ks last lh e n =
    let es = entries l ks in
    let with_rows : rows_placed false (areas_of es) [] es ≡ es = rows_none false l (areas_of es) [] ks in
    let first : Position = record { column = pos 0; row = pos 0 } in
    sym (bands_from last l ks [] (pos 0) (pos 0) first lh n (none_held l) (omega (arith, ints)) (omega (arith, ints)) refl)
    ∙ (λ i. shown (rest_placed (in_columns_of (e i)) (sym (areas_none l ks) i) first es))
    ∙ (λ i. let at : Position = record { column = (sym (columns_wide columns l ks) i).start; row = sym (first_none rows l ks) i } in
    shown (rest_placed (record { columns = sym (columns_wide columns l ks) i; first = sym (first_none rows l ks) i; dense = false }) (areas_of es) at es))
    ∙ (λ i.
    let fs : List rules.Entry = sym with_rows i in
    let at : Position = record { column = (columns_for columns fs).start; row = first_row rows fs } in
    shown (rest_placed (record { columns = columns_for columns fs; first = first_row rows fs; dense = false }) (areas_of fs) at fs))

pub filled_is : (items : List Wish) (shape : Shape) (l : ℕ) (last : ℤ) → shape.dense ≡ false → 1 ≤ l → have_height shape.column_flow l items ≡ true → last ≡ int_max (pos (explicit_columns shape.column_flow shape)) (pos (widest shape.column_flow items))
    → map (area_in_flow shape.column_flow) (in_bands last (pos 0) (pos 0) (map (wish_in_flow shape.column_flow) items)) ≡ placed items shape
filled_is items shape l last d lh e f =
    let flow = shape.column_flow in
    let columns = explicit_columns flow shape in
    let rows = explicit_rows flow shape in
    let s = sized last flow l items e (omega (arith, ints, clamps, f)) in
    let ks = widths flow items in
    let g : last ≡ int_max (pos columns) (pos (greatest_waiting (entries l ks))) = f ∙ ap (λ (n : ℕ). int_max (pos columns) (pos n)) (sym s.waiting) in
    ap (λ (areas : List Area). map (area_in_flow flow) areas)
    (ap (λ (ws : List Wish). in_bands last (pos 0) (pos 0) ws) s.same ∙ by_widths columns rows l ks last lh g s.narrow
    ∙ (λ i. placed_by_rows columns rows (sym d i) (sym s.same i)))
    ∙ in_flow flow items shape

-- ---- the loop

record IsNear (n : ℕ) (a : Area) : Type 0 where
  column : a.columns.end ≤ℤ pos (n + 20000)
  row : a.rows.start ≤ℤ pos (n + 20000)

after_near : (last x r : ℤ) (k l n : ℕ) → x ≤ℤ pos n → r ≤ℤ pos n → k ≤ 20000 → l ≤ 20000 → IsNear n (area_after last x r k l)
after_near last x r k l n c s kh lh = by (int_le (x +ℤ pos k) last)
  where
    by : (t : Bool) → IsNear n (if t then area_at (record { column = x; row = r }) k l else area_at (record { column = pos 0; row = r +ℤ pos l }) k l)
    by true = record { column = omega (arith, ints); row = omega (arith, ints) }
    by false = record { column = omega (arith, ints); row = omega (arith, ints) }

-- The areas so far, those of the items that are left, and how far they have come.
pub record IsFilled (flow : Bool) (last : ℤ) (end : Position) (i : ℕ) (done all : List Area) (left : List Wish) : Type 0 where
  pub areas : done ++ map (area_in_flow flow) (in_bands last end.column end.row (map (wish_in_flow flow) left)) ≡ all
  pub column : end.column ≤ℤ pos (20000 * i)
  pub row : end.row ≤ℤ pos (20000 * i)
  pub fit : IsTrue (are_placeable left)

pub fills_more : (flow : Bool) (last last2 : ℤ) (end next : Position) (i : ℕ) (done now all : List Area) (left more : List Wish) (item w : Wish) (k l : ℕ) (a b : Area) → IsFilled flow last end i done all left → left ≡ item ∷ more → last2 ≡ last
    → w ≡ wish_in_flow flow item → k ≡ free_length w.column → l ≡ free_length w.row → k ≤ 20000 → l ≤ 20000 → a ≡ area_after last2 end.column end.row k l → b ≡ area_in_flow flow a → now ≡ done ++ b ∷ [] → next.column ≡ a.columns.end → next.row ≡ a.rows.start →
    IsFilled flow last next (i + 1) now all more
fills_more flow last last2 end next i done now all left more item w k l a b s e le we ke he ks hs ae be ne c r =
    let v = wish_in_flow flow item in
    let is : a ≡ area_after last end.column end.row (free_length v.column) (free_length v.row) = ae ∙ (λ j. area_after (le j) end.column end.row ((ke ∙ ap (λ (u : Wish). free_length u.column) we) j) ((he ∙ ap (λ (u : Wish). free_length u.row) we) j)) in
    let near = subst (λ (x : Area). IsNear (20000 * i) x) (sym ae) (after_near last2 end.column end.row k l (20000 * i) s.column s.row ks hs) in
    let rest : List Wish → Area → List Area = λ ws x. map (area_in_flow flow) (in_bands last x.columns.end x.rows.start (map (wish_in_flow flow) ws)) in
    let nc = near.column in
    let nr = near.row in
    record {
      areas = (λ j. ne j ++ map (area_in_flow flow) (in_bands last (c j) (r j) (map (wish_in_flow flow) more)))
          ∙ append_assoc done (b ∷ []) (rest more a)
          ∙ (λ j. done ++ ((be ∙ ap (area_in_flow flow) is) j ∷ rest more (is j)))
          ∙ (λ j. done ++ map (area_in_flow flow) (in_bands last end.column end.row (map (wish_in_flow flow) (sym e j))))
          ∙ s.areas;
      column = omega (arith, ints, nc, c);
      row = omega (arith, ints, nr, r);
      fit = (both_pass (is_placeable item) (are_placeable more) (subst (λ (ws : List Wish). IsTrue (are_placeable ws)) e s.fit)).1;
    }
