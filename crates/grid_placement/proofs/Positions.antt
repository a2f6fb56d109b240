-- The search by rows and then by columns.
use Rattle.std.proofs.Common.{arith, rules, ap, not, ◌&&◌, ◌≤◌, [], ◌∷◌, ◌≡◌, refl, sym, ◌∙◌, subst, true≢false, ℕ, zero, suc, ℤ, pos, ◌+ℤ◌, ◌-ℤ◌, ◌≤ℤ◌, ◌<ℤ◌, ◌⊎◌, inl, inr, Bool, true, false, int_lt, int_le, List, ◌++◌, if◌then◌else◌}
use Rattle.std.specs.Int.{int_max, int_min}
use Rattle.std.proofs.lemmas.Int.{ints, clamps}
use Rattle.lunit.specs.Areas.{areas_overlap, is_free, spans_overlap}
use Rattle.lunit.specs.declared.geometry.Area.{Area}
use Rattle.lunit.specs.declared.geometry.Span.{Span}
use Rattle.part_rules.specs.Lists.{above_zero}
use Rattle.part_rules.specs.Placement.{to_end, first_free, free_position, rows_to_search, Position, area_at}
use Rattle.part_rules.proofs.Placed.{free_position_free, free_position_inside, least_position}
use Rattle.grid_placement.specs.Near.{AllEndBy}
use Rattle.grid_placement.specs.Reached.{NotAfter}
use Rattle.grid_placement.specs.InRow.{NoneBetween, NoneFree, IsFirst}
use Rattle.grid_placement.proofs.Near.{both_pass, pass_both, taken_starts}
use Rattle.grid_placement.proofs.Least.{found_after, free_first}

-- where a position is found for so many columns and rows
abbrev pub found : List Area → Span → ℕ → ℕ → Position → Position
found held columns k l from = free_position held columns k l (rows_to_search held from.row) from

position_after : (held : List Area) (columns : Span) (k l n : ℕ) (from : Position) → NotAfter from (free_position held columns k l n from)
position_after held columns k l zero from = record { rows = omega (arith, ints); columns = λ h. omega (arith, ints) }
position_after held columns k l (suc n) from =
    go (first_free (λ c. record { columns = to_end c k; rows = to_end from.row l }) held (above_zero (columns.end -ℤ pos k +ℤ pos 1 -ℤ from.column)) from.column)
    (found_after (λ c. record { columns = to_end c k; rows = to_end from.row l }) held (above_zero (columns.end -ℤ pos k +ℤ pos 1 -ℤ from.column)) from.column)
    (position_after held columns k l n (record { column = columns.start; row = from.row +ℤ pos 1 }))
  where
    go : (c : ℤ) → from.column ≤ℤ c → NotAfter (record { column = columns.start; row = from.row +ℤ pos 1 }) (free_position held columns k l n (record { column = columns.start; row = from.row +ℤ pos 1 }))
        → NotAfter from (if int_le (c +ℤ pos k) columns.end then record { column = c; row = from.row } else free_position held columns k l n (record { column = columns.start; row = from.row +ℤ pos 1 }))
    go c low later = by (int_le (c +ℤ pos k) columns.end)
      where
        by : (t : Bool) → NotAfter from (if t then record { column = c; row = from.row } else free_position held columns k l n (record { column = columns.start; row = from.row +ℤ pos 1 }))
        by true = record { rows = omega (arith, ints); columns = λ h. low }
        by false = let r = later.rows in record { rows = omega (arith, ints); columns = λ h. absurd (omega (arith, ints)) }

pub found_not_before : (held : List Area) (columns : Span) (k l : ℕ) (from : Position) → NotAfter from (found held columns k l from)
found_not_before held columns k l from = position_after held columns k l (rows_to_search held from.row) from

-- A search from a position, at another one.
pub record IsSought (held : List Area) (columns : Span) (k l : ℕ) (from at : Position) : Type 0 where
  pub after : NotAfter from at
  pub before : NotAfter at (found held columns k l from)
  pub first : columns.start ≤ℤ from.column
  pub column : columns.start ≤ℤ at.column
  pub fits : (columns.start +ℤ pos k) ≤ℤ columns.end

-- after a position is after it, or in its row
reached : (from q : Position) → NotAfter from q → (from.row <ℤ q.row) ⊎ ((from.row ≡ q.row) × (from.column ≤ℤ q.column))
reached from q h = by (int_lt from.row q.row) refl
  where
    by : (t : Bool) → int_lt from.row q.row ≡ t → (from.row <ℤ q.row) ⊎ ((from.row ≡ q.row) × (from.column ≤ℤ q.column))
    by true t = inl (search rules)
    by false t =
        let k : q.row ≤ℤ from.row = search rules in
        let r = h.rows in
        inr (omega (arith, ints), h.columns k)

pub begins : (held : List Area) (columns : Span) (k l : ℕ) (from : Position) → columns.start ≤ℤ from.column → (columns.start +ℤ pos k) ≤ℤ columns.end → IsSought held columns k l from from
begins held columns k l from s e = record {
  after = record { rows = omega (arith, ints); columns = λ h. omega (arith, ints) };
  before = found_not_before held columns k l from;
  first = s;
  column = s;
  fits = e;
}

-- Where none is free in the row of the search, the position lies in a later one.
pub row_passes : (held : List Area) (columns : Span) (k l : ℕ) (from at : Position) → IsSought held columns k l from at → NoneFree held k (to_end at.row l) at.column (columns.end -ℤ pos k +ℤ pos 1) → at.row <ℤ (found held columns k l from).row
row_passes held columns k l from at s none = by (int_lt at.row (found held columns k l from).row) refl
  where
    by : (t : Bool) → int_lt at.row (found held columns k l from).row ≡ t → at.row <ℤ (found held columns k l from).row
    by true t = search rules
    by false t =
        let h : (found held columns k l from).row ≤ℤ at.row = search rules in
        let r = s.before.rows in
        let c = s.before.columns h in
        let same : (found held columns k l from).row ≡ at.row = omega (arith, ints) in
        let inside = free_position_inside held columns k l from s.first s.fits in
        let e = inside.ends in
        let taken = none.taken (found held columns k l from).column c (omega (arith, ints)) in
        absurd (true≢false (sym (free_position_free held columns k l from) ∙ subst (λ (z : ℤ). is_free (record { columns = to_end (found held columns k l from).column k; rows = to_end z l }) held ≡ false) (sym same) taken))

-- Where none is free in the rows up to a later one either, it is not before that row.
pub rows_pass : (held : List Area) (columns : Span) (k l : ℕ) (from : Position) (row next : ℤ) → columns.start ≤ℤ from.column → (columns.start +ℤ pos k) ≤ℤ columns.end → row <ℤ (found held columns k l from).row →
    NoneBetween held k l columns.start (columns.end -ℤ pos k +ℤ pos 1) row next → next ≤ℤ (found held columns k l from).row
rows_pass held columns k l from row next first fits less none = by (int_lt (found held columns k l from).row next) refl
  where
    by : (t : Bool) → int_lt (found held columns k l from).row next ≡ t → next ≤ℤ (found held columns k l from).row
    by true t =
        let inside = free_position_inside held columns k l from first fits in
        let s = inside.starts in
        let e = inside.ends in
        absurd (true≢false (sym (free_position_free held columns k l from) ∙ none.taken (found held columns k l from).column (found held columns k l from).row less (search rules) s (omega (arith, ints))))
    by false t = search rules

-- The search goes on at the first column of that row.
pub goes_on : (held : List Area) (columns : Span) (k l : ℕ) (from at : Position) (next : ℤ) → IsSought held columns k l from at → at.row <ℤ next → next ≤ℤ (found held columns k l from).row → IsSought held columns k l from (record { column = columns.start; row = next })
goes_on held columns k l from at next s less near =
    let r = s.after.rows in
    let f = free_position_inside held columns k l from s.first s.fits in record {
      after = record { rows = omega (arith, ints); columns = λ h. absurd (omega (arith, ints)) };
      before = record { rows = near; columns = λ h. f.starts };
      first = s.first;
      column = omega (arith, ints);
      fits = s.fits;
    }

-- a free position that the search passes is not before the one that is found
pub not_earlier : (held : List Area) (columns : Span) (k l : ℕ) (from q : Position) → NotAfter from q → columns.start ≤ℤ q.column → (q.column +ℤ pos k) ≤ℤ columns.end → is_free (area_at q k l) held ≡ true → NotAfter (found held columns k l from) q
not_earlier held columns k l from q after starts ends free = record {
  rows = by (int_lt q.row (found held columns k l from).row) refl;
  columns = λ h. in_row h (int_lt q.column (found held columns k l from).column) refl;
}
  where
    by : (t : Bool) → int_lt q.row (found held columns k l from).row ≡ t → (found held columns k l from).row ≤ℤ q.row
    by true t = absurd (true≢false (sym free ∙ least_position held columns k l (rows_to_search held from.row) from q (record { starts = starts; ends = ends; reached = reached from q after; passed = inl (search rules) })))
    by false t = search rules

    in_row : q.row ≤ℤ (found held columns k l from).row → (t : Bool) → int_lt q.column (found held columns k l from).column ≡ t → (found held columns k l from).column ≤ℤ q.column
    in_row h true t =
        let other = by (int_lt q.row (found held columns k l from).row) refl in
        let same : q.row ≡ (found held columns k l from).row = omega (arith, ints) in
        absurd (true≢false (sym free ∙ least_position held columns k l (rows_to_search held from.row) from q (record { starts = starts; ends = ends; reached = reached from q after; passed = inr (same, search rules) })))
    in_row h false t = search rules

-- two positions that are not after each other
pub same_position : (p q : Position) → NotAfter p q → NotAfter q p → p ≡ q
same_position p q a b =
    let r = a.rows in
    let s = b.rows in
    let c = a.columns s in
    let d = b.columns r in
    let e : p.column ≡ q.column = omega (arith, ints) in
    let f : p.row ≡ q.row = omega (arith, ints) in
    λ i. record { column = e i; row = f i }

-- The first free place in the row of the search is the position.
pub found_here : (held : List Area) (columns : Span) (k l : ℕ) (from at : Position) (place : Span) → IsSought held columns k l from at → IsFirst held k (to_end at.row l) at.column columns.end place → record { columns = place; rows = to_end at.row l } ≡ area_at (found held columns k l from) k l
found_here held columns k l from at place s f =
    let start = f.after in
    let first = s.column in
    let ends = f.within in
    let span = f.span in
    let here : Position = record { column = place.start; row = at.row } in
    let end : place.end ≡ place.start +ℤ pos k = λ i. (span i).end in
    let after : NotAfter from here = record { rows = s.after.rows; columns = λ h. let b = s.after.columns h in omega (arith, ints) } in
    let free : is_free (area_at here k l) held ≡ true = subst (λ (z : Span). is_free (record { columns = z; rows = to_end at.row l }) held ≡ true) span f.free in
    let late : NotAfter (found held columns k l from) here = not_earlier held columns k l from here after (omega (arith, ints)) (omega (arith, ints)) free in
    let early : NotAfter here (found held columns k l from) = record { rows = s.before.rows; columns = λ h. by h late.rows (int_lt (found held columns k l from).column place.start) refl } in
    let same : here ≡ found held columns k l from = same_position here (found held columns k l from) early late in
    (λ i. record { columns = span i; rows = to_end at.row l }) ∙ (λ i. area_at (same i) k l)
  where
    by : (found held columns k l from).row ≤ℤ at.row → (found held columns k l from).row ≤ℤ at.row → (t : Bool) → int_lt (found held columns k l from).column place.start ≡ t → place.start ≤ℤ (found held columns k l from).column
    by h late true t =
        let r = s.before.rows in
        let c = s.before.columns h in
        let same : (found held columns k l from).row ≡ at.row = omega (arith, ints) in
        let taken = f.none.taken (found held columns k l from).column c (search rules) in
        absurd (true≢false (sym (free_position_free held columns k l from) ∙ subst (λ (z : ℤ). is_free (record { columns = to_end (found held columns k l from).column k; rows = to_end z l }) held ≡ false) (sym same) taken))
    by h late false t = search rules

-- The position is within the line that all areas end by.
pub row_within : (line : ℤ) (held : List Area) (columns : Span) (k l : ℕ) (from : Position) → AllEndBy line held → from.row <ℤ line → (columns.start +ℤ pos k) ≤ℤ columns.end → (found held columns k l from).row ≤ℤ line
row_within line held columns k l from h low fits = by (int_lt line (found held columns k l from).row) refl
  where
    by : (t : Bool) → int_lt line (found held columns k l from).row ≡ t → (found held columns k l from).row ≤ℤ line
    by true t =
        let q : Position = record { column = columns.start; row = line } in
        let taken = least_position held columns k l (rows_to_search held from.row) from q (record { starts = omega (arith, ints); ends = fits; reached = inl low; passed = inl (search rules) }) in
        let less = taken_starts line held (area_at q k l) h taken in
        absurd (omega (arith, ints, less.1))
    by false t = search rules

pub column_within : (line : ℤ) (held : List Area) (columns : Span) (k l : ℕ) (from : Position) → AllEndBy line held → columns.start ≤ℤ from.column → from.column ≤ℤ line → (columns.start +ℤ pos k) ≤ℤ columns.end → (found held columns k l from).column ≤ℤ line
column_within line held columns k l from h first low fits = by (int_lt line (found held columns k l from).column) refl
  where
    by : (t : Bool) → int_lt line (found held columns k l from).column ≡ t → (found held columns k l from).column ≤ℤ line
    by true t =
        let q : Position = record { column = line; row = (found held columns k l from).row } in
        let inside = free_position_inside held columns k l from first fits in
        let e = inside.ends in
        let past : line <ℤ (found held columns k l from).column = search rules in
        let after : NotAfter from q = record { rows = (found_not_before held columns k l from).rows; columns = λ h. low } in
        let taken = least_position held columns k l (rows_to_search held from.row) from q (record { starts = omega (arith, ints); ends = omega (arith, ints); reached = reached from q after; passed = inr (refl, past) }) in
        let less = taken_starts line held (area_at q k l) h taken in
        absurd (omega (arith, ints, less.0))
    by false t = search rules

-- ---- the search's steps

-- the position of an area
abbrev pub corner : Area → Position
corner a = record { column = a.columns.start; row = a.rows.start }

-- A search at an area of so many columns and rows.
pub record IsSearch (held : List Area) (columns : Span) (k l : ℕ) (from : Position) (area : Area) : Type 0 where
  pub columns_are : area.columns ≡ to_end area.columns.start k
  pub rows_are : area.rows ≡ to_end area.rows.start l
  pub sought : IsSought held columns k l from (corner area)
  pub near : area.columns.start ≤ℤ pos 1310805536

pub search_begins : (held : List Area) (columns : Span) (k l : ℕ) (from : Position) (area : Area) (x y : ℤ) → x ≡ from.column → y ≡ from.row → columns.start ≤ℤ from.column → (columns.start +ℤ pos k) ≤ℤ columns.end → from.column ≤ℤ pos 1310805536
    → area.columns ≡ to_end x k → area.rows ≡ to_end y l → IsSearch held columns k l from area
search_begins held columns k l from area x y xe ye s e near c r = subst (λ (a : Area). IsSearch held columns k l from a) (λ i. record { columns = sym (c ∙ λ j. to_end (xe j) k) i; rows = sym (r ∙ λ j. to_end (ye j) l) i }) (record {
  columns_are = refl;
  rows_are = refl;
  sought = begins held columns k l from s e;
  near = near;
})

pub search_less : (held : List Area) (columns : Span) (k l : ℕ) (from : Position) (area : Area) → IsSearch held columns k l from area → AllEndBy (pos 1310805536) held → from.row <ℤ pos 1310805536
    → NoneFree held k area.rows area.columns.start (columns.end -ℤ pos k +ℤ pos 1) → area.rows.start <ℤ pos 1310805536
search_less held columns k l from area s h low none =
    let less = row_passes held columns k l from (corner area) s.sought (subst (λ (r : Span). NoneFree held k r area.columns.start (columns.end -ℤ pos k +ℤ pos 1)) s.rows_are none) in
    let within = row_within (pos 1310805536) held columns k l from h low s.sought.fits in
    omega (arith, ints)

pub search_goes_on : (held : List Area) (columns : Span) (k l : ℕ) (from : Position) (area : Area) (first rows : Span) (x row next y : ℤ) → x ≡ columns.start → y ≡ next → row ≡ area.rows.start → IsSearch held columns k l from area → columns.start ≤ℤ pos 1310805536
    → NoneFree held k area.rows area.columns.start (columns.end -ℤ pos k +ℤ pos 1) → row <ℤ next → NoneBetween held k l columns.start (columns.end -ℤ pos k +ℤ pos 1) row next → first ≡ to_end x k → rows ≡ to_end y l
    → IsSearch held columns k l from (record { columns = first; rows = rows })
search_goes_on held columns k l from area first rows x row next y xe ye re s near none less between fx ry =
    let f : first ≡ to_end columns.start k = fx ∙ (λ i. to_end (xe i) k) in
    let r : rows ≡ to_end next l = ry ∙ (λ i. to_end (ye i) l) in
    let passes = row_passes held columns k l from (corner area) s.sought (subst (λ (r : Span). NoneFree held k r area.columns.start (columns.end -ℤ pos k +ℤ pos 1)) s.rows_are none) in
    let far = rows_pass held columns k l from row next s.sought.first s.sought.fits (omega (arith, ints)) between in
    let on = goes_on held columns k l from (corner area) next s.sought (omega (arith, ints)) far in
    let g : first.start ≡ columns.start = λ i. (f i).start in
    let h : rows.start ≡ next = λ i. (r i).start in record {
      columns_are = f ∙ (λ i. to_end (sym g i) k);
      rows_are = r ∙ (λ i. to_end (sym h i) l);
      sought = subst (λ (p : Position). IsSought held columns k l from p) (λ i. record { column = sym g i; row = sym h i }) on;
      near = omega (arith, ints);
    }

pub search_ends : (held : List Area) (columns : Span) (k l : ℕ) (from : Position) (area : Area) (place : Span) → IsSearch held columns k l from area → IsFirst held k area.rows area.columns.start columns.end place
    → (let a : Area = record { columns = place; rows = area.rows } in a ≡ area_at (found held columns k l from) k l)
search_ends held columns k l from area place s f =
    (λ i. record { columns = place; rows = s.rows_are i }) ∙ found_here held columns k l from (corner area) place s.sought (subst (λ (r : Span). IsFirst held k r area.columns.start columns.end place) s.rows_are f)

-- ---- searches that begin later, and cells of which more are taken

trans : (p q r : Position) → NotAfter p q → NotAfter q r → NotAfter p r
trans p q r a b =
    let x = a.rows in
    let y = b.rows in record {
      rows = omega (arith, ints);
      columns = λ h. let m = a.columns (omega (arith, ints)) in let n = b.columns (omega (arith, ints)) in omega (arith, ints);
    }

-- A search that begins between where another began and what it found finds the same.
pub position_again : (held : List Area) (columns : Span) (k l : ℕ) (from at : Position) → columns.start ≤ℤ from.column → columns.start ≤ℤ at.column → (columns.start +ℤ pos k) ≤ℤ columns.end → NotAfter from at → NotAfter at (found held columns k l from)
    → found held columns k l at ≡ found held columns k l from
position_again held columns k l from at first start fits after before =
    let one = free_position_inside held columns k l from first fits in
    let two = free_position_inside held columns k l at start fits in
    same_position (found held columns k l at) (found held columns k l from)
    (not_earlier held columns k l at (found held columns k l from) before one.starts one.ends (free_position_free held columns k l from))
    (not_earlier held columns k l from (found held columns k l at) (trans from at (found held columns k l at) after (found_not_before held columns k l at)) two.starts two.ends (free_position_free held columns k l at))

-- Where more is taken, the position found is not before.
pub position_grows : (held new : List Area) (columns : Span) (k l : ℕ) (from : Position) → columns.start ≤ℤ from.column → (columns.start +ℤ pos k) ≤ℤ columns.end → NotAfter (found held columns k l from) (found (held ++ new) columns k l from)
position_grows held new columns k l from first fits =
    let inside = free_position_inside (held ++ new) columns k l from first fits in
    not_earlier held columns k l from (found (held ++ new) columns k l from) (found_not_before (held ++ new) columns k l from) inside.starts inside.ends
    (free_first (area_at (found (held ++ new) columns k l from) k l) held new (free_position_free (held ++ new) columns k l from))

pub not_after_more : (p q r : Position) → NotAfter p q → NotAfter q r → NotAfter p r
not_after_more p q r a b = trans p q r a b

pub not_after_itself : (p : Position) → NotAfter p p
not_after_itself p = record { rows = omega (arith, ints); columns = λ h. omega (arith, ints) }

-- ---- larger sizes

lt_from : (a b : ℤ) → int_lt a b ≡ true → a <ℤ b
lt_from a b h = search rules

to_lt : (a b : ℤ) → a <ℤ b → int_lt a b ≡ true
to_lt a b h = search rules

longer_overlaps : (start : ℤ) (a k : ℕ) (b : Span) → a ≤ k → spans_overlap (to_end start a) b ≡ true → spans_overlap (to_end start k) b ≡ true
longer_overlaps start a k b more h =
    let less : int_max start b.start <ℤ int_min (start +ℤ pos a) b.end = lt_from (int_max start b.start) (int_min (start +ℤ pos a) b.end) h in
    to_lt (int_max start b.start) (int_min (start +ℤ pos k) b.end) (omega (arith, ints, clamps, less, more))

-- what is free for more columns and rows is for fewer
pub smaller_free : (p : Position) (a b k l : ℕ) (held : List Area) → a ≤ k → b ≤ l → is_free (area_at p k l) held ≡ true → is_free (area_at p a b) held ≡ true
smaller_free p a b k l [] wide high h = refl
smaller_free p a b k l (c ∷ held) wide high h = by (smaller_free p a b k l held wide high parts.1) (areas_overlap (area_at p a b) c) refl
  where
    parts : (not (areas_overlap (area_at p k l) c) ≡ true) × (is_free (area_at p k l) held ≡ true)
    parts = both_pass (not (areas_overlap (area_at p k l) c)) (is_free (area_at p k l) held) h

    by : is_free (area_at p a b) held ≡ true → (o : Bool) → areas_overlap (area_at p a b) c ≡ o → (not o && is_free (area_at p a b) held) ≡ true
    by rest false e = rest
    by rest true e =
        let both = both_pass (spans_overlap (to_end p.column a) c.columns) (spans_overlap (to_end p.row b) c.rows) e in
        let more : areas_overlap (area_at p k l) c ≡ true = pass_both (spans_overlap (to_end p.column k) c.columns) (spans_overlap (to_end p.row l) c.rows) (longer_overlaps p.column a k c.columns wide both.0) (longer_overlaps p.row b l c.rows high both.1) in
        absurd (true≢false (sym parts.0 ∙ ap not more))

-- No larger item finds an earlier position.
pub position_larger : (held : List Area) (columns : Span) (a b k l : ℕ) (from : Position) → columns.start ≤ℤ from.column → (columns.start +ℤ pos k) ≤ℤ columns.end → a ≤ k → b ≤ l → NotAfter (found held columns a b from) (found held columns k l from)
position_larger held columns a b k l from first fits wide high =
    let inside = free_position_inside held columns k l from first fits in
    let e = inside.ends in
    not_earlier held columns a b from (found held columns k l from) (found_not_before held columns k l from) inside.starts (omega (arith, ints, e, wide)) (smaller_free (found held columns k l from) a b k l held wide high (free_position_free held columns k l from))
