-- What is placed in a free place overlaps nothing that is placed before, and no earlier place was free.
use Rattle.std.proofs.Common.{◌<◌, arith, ap, subst, ◌≡◌, sym, ◌∙◌, refl, ℕ, zero, suc, ℤ, pos, negsuc, ◌+ℤ◌, ◌-ℤ◌, ◌≤ℤ◌, ◌<ℤ◌, ◌⊎◌, inl, inr, Bool, true, false, not, ◌&&◌, List, [], ◌∷◌, if◌then◌else◌, int_lt, int_le}
use Rattle.std.specs.Int.{int_max, int_min}
use Rattle.std.proofs.lemmas.Int.{ints, clamps}
use Rattle.lunit.specs.Areas.{is_free, areas_overlap, spans_overlap}
use Rattle.lunit.specs.declared.geometry.Span.{Span}
use Rattle.lunit.specs.declared.geometry.Area.{Area}
use Rattle.lunit.specs.declared.geometry.Spot.{Spot}
use Rattle.lunit.specs.declared.geometry.Spot.TheVariants.{At, Free}
use Rattle.part_rules.specs.Lists.{above_zero, greatest_with}
use Rattle.part_rules.specs.Placement.{to_end, first_free, far_column, far_row, free_column, free_row, Position, free_position, rows_to_search, row_area, row_search_start, Field, column_search_start, free_search_start, area_at, next_area, IsFreeOf, IsEarlier, IsLeast, IsInside}

-- ---- the least place is free, and no place before it

-- the place found is free, or it is the one after all that were looked at
either_free : (area : ℤ → Area) (placed : List Area) (n : ℕ) (from : ℤ) → (is_free (area (first_free area placed n from)) placed ≡ true) ⊎ (first_free area placed n from ≡ from +ℤ pos n)
either_free area placed zero from = inr (omega (arith, ints))
either_free area placed (suc n) from = go (is_free (area from) placed) refl (either_free area placed n (from +ℤ pos 1))
  where
    go : (b : Bool) → is_free (area from) placed ≡ b
        → (is_free (area (first_free area placed n (from +ℤ pos 1))) placed ≡ true) ⊎ (first_free area placed n (from +ℤ pos 1) ≡ from +ℤ pos 1 +ℤ pos n)
        → (is_free (area (if b then from else first_free area placed n (from +ℤ pos 1))) placed ≡ true) ⊎ ((if b then from else first_free area placed n (from +ℤ pos 1)) ≡ from +ℤ pos (suc n))
    go true e h = inl e
    go false e (inl h) = inl h
    go false e (inr h) = inr (h ∙ omega (arith, ints))

-- No position before the one found is free.
pub none_before : (area : ℤ → Area) (placed : List Area) (n : ℕ) (from x : ℤ) → from ≤ℤ x → x <ℤ first_free area placed n from → is_free (area x) placed ≡ false
none_before area placed zero from x low high = absurd (omega (arith, ints))
none_before area placed (suc n) from x low high = go (is_free (area from) placed) refl high (none_before area placed n (from +ℤ pos 1) x)
  where
    go : (b : Bool) → is_free (area from) placed ≡ b → x <ℤ (if b then from else first_free area placed n (from +ℤ pos 1))
        → ((from +ℤ pos 1) ≤ℤ x → x <ℤ first_free area placed n (from +ℤ pos 1) → is_free (area x) placed ≡ false) → is_free (area x) placed ≡ false
    go true e h f = absurd (omega (arith, ints))
    go false e h f = by (int_lt from x) refl
      where
        by : (t : Bool) → int_lt from x ≡ t → is_free (area x) placed ≡ false
        by true k = f (omega (arith, ints)) h
        by false k = let same : from ≡ x = omega (arith, ints) in subst (λ z. is_free (area z) placed ≡ false) same e

-- ---- where all areas have ended, all is free

apart : (a b : Span) → b.end ≤ℤ a.start → spans_overlap a b ≡ false
apart a b h = by (int_lt (int_max a.start b.start) (int_min a.end b.end)) refl
  where
    by : (t : Bool) → int_lt (int_max a.start b.start) (int_min a.end b.end) ≡ t → t ≡ false
    by true e = absurd (omega (arith, ints, clamps))
    by false e = refl

and_false : (b : Bool) → (b && false) ≡ false
and_false true = refl
and_false false = refl

free_by : (area : Area) (b : Area) (placed : List Area) → areas_overlap area b ≡ false → is_free area placed ≡ true → is_free area (b ∷ placed) ≡ true
free_by area b placed e h = ap (λ (o : Bool). not o && is_free area placed) e ∙ h

past_columns : (placed : List Area) (from : ℤ) (columns rows : Span) → far_column placed from ≤ℤ columns.start → is_free (record { columns = columns; rows = rows }) placed ≡ true
past_columns [] from columns rows h = refl
past_columns (b ∷ placed) from columns rows h =
    free_by (record { columns = columns; rows = rows }) b placed
    (ap (λ (o : Bool). o && spans_overlap rows b.rows) (apart columns b.columns (omega (arith, ints, clamps))))
    (past_columns placed from columns rows (omega (arith, ints, clamps)))

past_rows : (placed : List Area) (from : ℤ) (columns rows : Span) → far_row placed from ≤ℤ rows.start → is_free (record { columns = columns; rows = rows }) placed ≡ true
past_rows [] from columns rows h = refl
past_rows (b ∷ placed) from columns rows h =
    free_by (record { columns = columns; rows = rows }) b placed
    (ap (λ (o : Bool). spans_overlap columns b.columns && o) (apart rows b.rows (omega (arith, ints, clamps))) ∙ and_false (spans_overlap columns b.columns))
    (past_rows placed from columns rows (omega (arith, ints, clamps)))

above : (z : ℤ) → pos 0 ≤ℤ z → pos (above_zero z) ≡ z
above (pos n) h = refl
above (negsuc n) h = absurd (omega (arith, ints))

above_least : (z : ℤ) → z ≤ℤ pos (above_zero z)
above_least (pos n) = omega (arith, ints)
above_least (negsuc n) = omega (arith, ints)

-- The column found in a row is free.
pub free_column_free : (placed : List Area) (k : ℕ) (rows : Span) (from : ℤ) → is_free (record { columns = to_end (free_column placed k rows from) k; rows = rows }) placed ≡ true
free_column_free placed k rows from = go (either_free (λ c. record { columns = to_end c k; rows = rows }) placed (above_zero (far_column placed from -ℤ from)) from)
  where
    go : (is_free (record { columns = to_end (free_column placed k rows from) k; rows = rows }) placed ≡ true) ⊎ (free_column placed k rows from ≡ from +ℤ pos (above_zero (far_column placed from -ℤ from))) →
        is_free (record { columns = to_end (free_column placed k rows from) k; rows = rows }) placed ≡ true
    go (inl h) = h
    go (inr h) = past_columns placed from (to_end (free_column placed k rows from) k) rows (omega (arith, ints, h, above_least (far_column placed from -ℤ from)))

-- The row found in columns is free.
pub free_row_free : (placed : List Area) (columns : Span) (l : ℕ) (from : ℤ) → is_free (record { columns = columns; rows = to_end (free_row placed columns l from) l }) placed ≡ true
free_row_free placed columns l from = go (either_free (λ r. record { columns = columns; rows = to_end r l }) placed (above_zero (far_row placed from -ℤ from)) from)
  where
    go : (is_free (record { columns = columns; rows = to_end (free_row placed columns l from) l }) placed ≡ true) ⊎ (free_row placed columns l from ≡ from +ℤ pos (above_zero (far_row placed from -ℤ from))) →
        is_free (record { columns = columns; rows = to_end (free_row placed columns l from) l }) placed ≡ true
    go (inl h) = h
    go (inr h) = past_rows placed from columns (to_end (free_row placed columns l from) l) (omega (arith, ints, h, above_least (far_row placed from -ℤ from)))

-- The position found for an item that is free in both axes is free.
position_free : (placed : List Area) (columns : Span) (k l n : ℕ) (from : Position) (least : ℤ) → least ≤ℤ from.row → far_row placed least ≤ℤ (from.row +ℤ pos n) → is_free (area_at (free_position placed columns k l n from) k l) placed ≡ true
position_free placed columns k l zero from least h e = past_rows placed least (to_end from.column k) (to_end from.row l) (omega (arith, ints))
position_free placed columns k l (suc n) from least h e =
    go (first_free at placed count from.column) (either_free at placed count from.column) refl (position_free placed columns k l n (record { column = columns.start; row = from.row +ℤ pos 1 }) least (omega (arith, ints)) (omega (arith, ints)))
  where
    at : ℤ → Area
    at c = record { columns = to_end c k; rows = to_end from.row l }

    count : ℕ
    count = above_zero (columns.end -ℤ pos k +ℤ pos 1 -ℤ from.column)

    go : (c : ℤ) → (is_free (at c) placed ≡ true) ⊎ (c ≡ from.column +ℤ pos count) → c ≡ c
        → is_free (area_at (free_position placed columns k l n (record { column = columns.start; row = from.row +ℤ pos 1 })) k l) placed ≡ true
        → is_free (area_at (if int_le (c +ℤ pos k) columns.end then record { column = c; row = from.row } else free_position placed columns k l n (record { column = columns.start; row = from.row +ℤ pos 1 })) k l) placed ≡ true
    go c f e later = by (int_le (c +ℤ pos k) columns.end) refl f
      where
        by : (t : Bool) → int_le (c +ℤ pos k) columns.end ≡ t → (is_free (at c) placed ≡ true) ⊎ (c ≡ from.column +ℤ pos count) →
            is_free (area_at (if t then record { column = c; row = from.row } else free_position placed columns k l n (record { column = columns.start; row = from.row +ℤ pos 1 })) k l) placed ≡ true
        by false g s = later
        by true g (inl s) = s
        by true g (inr s) = absurd (omega (arith, ints, s, above_least (columns.end -ℤ pos k +ℤ pos 1 -ℤ from.column)))

pub free_position_free : (placed : List Area) (columns : Span) (k l : ℕ) (from : Position) → is_free (area_at (free_position placed columns k l (rows_to_search placed from.row) from) k l) placed ≡ true
free_position_free placed columns k l from = position_free placed columns k l (rows_to_search placed from.row) from from.row (omega (arith, ints)) (omega (arith, ints, above_least (far_row placed from.row -ℤ from.row)))

-- ---- the area of each item that is not definite in both axes

pub row_area_free : (dense : Bool) (placed mine : List Area) (column row : Spot) → IsFreeOf placed (row_area dense placed mine column row)
row_area_free dense placed mine (At c) row = tt
row_area_free dense placed mine (Free k) (At rows) = free_column_free placed k rows (row_search_start dense mine rows)
row_area_free dense placed mine (Free k) (Free l) = tt

pub next_area_free : (f : Field) (placed : List Area) (cursor : Position) (column row : Spot) → IsFreeOf placed (next_area f placed cursor column row)
next_area_free f placed cursor (At columns) (At rows) = tt
next_area_free f placed cursor (At columns) (Free l) = free_row_free placed columns l (column_search_start f cursor columns)
next_area_free f placed cursor (Free k) (At rows) = tt
next_area_free f placed cursor (Free k) (Free l) = free_position_free placed f.columns k l (free_search_start f cursor)

-- ---- the position found is within the columns

first_least : (area : ℤ → Area) (placed : List Area) (n : ℕ) (from : ℤ) → from ≤ℤ first_free area placed n from
first_least area placed zero from = omega (arith, ints)
first_least area placed (suc n) from = go (is_free (area from) placed) (first_least area placed n (from +ℤ pos 1))
  where
    go : (b : Bool) → (from +ℤ pos 1) ≤ℤ first_free area placed n (from +ℤ pos 1) → from ≤ℤ (if b then from else first_free area placed n (from +ℤ pos 1))
    go true h = omega (arith, ints)
    go false h = omega (arith, ints)

inside_of : (placed : List Area) (columns : Span) (k l n : ℕ) (from : Position) → columns.start ≤ℤ from.column → (columns.start +ℤ pos k) ≤ℤ columns.end → ((from.column +ℤ pos k) ≤ℤ columns.end) ⊎ (0 < n)
    → IsInside columns k (free_position placed columns k l n from)
inside_of placed columns k l zero from s e (inl h) = record { starts = s; ends = h }
inside_of placed columns k l zero from s e (inr h) = absurd (omega (arith, h))
inside_of placed columns k l (suc n) from s e h =
    go (first_free (λ c. record { columns = to_end c k; rows = to_end from.row l }) placed (above_zero (columns.end -ℤ pos k +ℤ pos 1 -ℤ from.column)) from.column)
    (first_least (λ c. record { columns = to_end c k; rows = to_end from.row l }) placed (above_zero (columns.end -ℤ pos k +ℤ pos 1 -ℤ from.column)) from.column)
    (inside_of placed columns k l n (record { column = columns.start; row = from.row +ℤ pos 1 }) (omega (arith, ints)) e (inl e))
  where
    go : (c : ℤ) → from.column ≤ℤ c → IsInside columns k (free_position placed columns k l n (record { column = columns.start; row = from.row +ℤ pos 1 }))
        → IsInside columns k (if int_le (c +ℤ pos k) columns.end then record { column = c; row = from.row } else free_position placed columns k l n (record { column = columns.start; row = from.row +ℤ pos 1 }))
    go c low later = by (int_le (c +ℤ pos k) columns.end) refl
      where
        by : (t : Bool) → int_le (c +ℤ pos k) columns.end ≡ t → IsInside columns k (if t then record { column = c; row = from.row } else free_position placed columns k l n (record { column = columns.start; row = from.row +ℤ pos 1 }))
        by true t = record { starts = omega (arith, ints); ends = omega (arith, ints) }
        by false t = later

pub free_position_inside : (placed : List Area) (columns : Span) (k l : ℕ) (from : Position) → columns.start ≤ℤ from.column → (columns.start +ℤ pos k) ≤ℤ columns.end
    → IsInside columns k (free_position placed columns k l (rows_to_search placed from.row) from)
free_position_inside placed columns k l from s e = inside_of placed columns k l (rows_to_search placed from.row) from s e (inr (omega arith))

-- ---- no earlier position was free

-- a later row's search begins at the first column of the next row
next_row : (columns : Span) (k : ℕ) (from found q : Position) → IsEarlier columns k from found q → from.row <ℤ q.row → IsEarlier columns k (record { column = columns.start; row = from.row +ℤ pos 1 }) found q
next_row columns k from found q e later = record {
  starts = e.starts;
  ends = e.ends;
  reached = by (int_lt (from.row +ℤ pos 1) q.row) refl;
  passed = e.passed;
}
  where
    by : (t : Bool) → int_lt (from.row +ℤ pos 1) q.row ≡ t → ((from.row +ℤ pos 1) <ℤ q.row) ⊎ (((from.row +ℤ pos 1) ≡ q.row) × (columns.start ≤ℤ q.column))
    by true k = inl (omega (arith, ints))
    by false k = inr (omega (arith, ints), e.starts)

in_this_row : (placed : List Area) (columns : Span) (k l : ℕ) (from q : Position) (c : ℤ) → from.row ≡ q.row → from.column ≤ℤ q.column → q.column <ℤ c
    → first_free (λ x. record { columns = to_end x k; rows = to_end from.row l }) placed (above_zero (columns.end -ℤ pos k +ℤ pos 1 -ℤ from.column)) from.column ≡ c
    → is_free (area_at q k l) placed ≡ false
in_this_row placed columns k l from q c same low high e =
    subst (λ (r : ℤ). is_free (record { columns = to_end q.column k; rows = to_end r l }) placed ≡ false) same
    (none_before (λ x. record { columns = to_end x k; rows = to_end from.row l }) placed (above_zero (columns.end -ℤ pos k +ℤ pos 1 -ℤ from.column)) from.column q.column low (subst (λ (z : ℤ). q.column <ℤ z) (sym e) high))

pub least_position : (placed : List Area) (columns : Span) (k l n : ℕ) (from : Position) → IsLeast placed columns k l from (free_position placed columns k l n from)
least_position placed columns k l zero from q e = go e.reached e.passed
  where
    go : (from.row <ℤ q.row) ⊎ ((from.row ≡ q.row) × (from.column ≤ℤ q.column)) → (q.row <ℤ from.row) ⊎ ((q.row ≡ from.row) × (q.column <ℤ from.column)) → is_free (area_at q k l) placed ≡ false
    go (inl a) (inl b) = absurd (omega (arith, ints))
    go (inl a) (inr b) = let s = b.0 in absurd (omega (arith, ints))
    go (inr a) (inl b) = let s = a.0 in absurd (omega (arith, ints))
    go (inr a) (inr b) = let x = a.1 in let y = b.1 in absurd (omega (arith, ints))
least_position placed columns k l (suc n) from q e =
    go (first_free (λ c. record { columns = to_end c k; rows = to_end from.row l }) placed (above_zero (columns.end -ℤ pos k +ℤ pos 1 -ℤ from.column)) from.column) refl e
    (least_position placed columns k l n (record { column = columns.start; row = from.row +ℤ pos 1 }) q)
  where
    go : (c : ℤ) → first_free (λ c. record { columns = to_end c k; rows = to_end from.row l }) placed (above_zero (columns.end -ℤ pos k +ℤ pos 1 -ℤ from.column)) from.column ≡ c
        → IsEarlier columns k from (if int_le (c +ℤ pos k) columns.end then record { column = c; row = from.row } else free_position placed columns k l n (record { column = columns.start; row = from.row +ℤ pos 1 })) q
        → (IsEarlier columns k (record { column = columns.start; row = from.row +ℤ pos 1 }) (free_position placed columns k l n (record { column = columns.start; row = from.row +ℤ pos 1 })) q → is_free (area_at q k l) placed ≡ false)
        → is_free (area_at q k l) placed ≡ false
    go c same e later = by (int_le (c +ℤ pos k) columns.end) refl e
      where
        at_found : IsEarlier columns k from (record { column = c; row = from.row }) q → (from.row <ℤ q.row) ⊎ ((from.row ≡ q.row) × (from.column ≤ℤ q.column)) → (q.row <ℤ from.row) ⊎ ((q.row ≡ from.row) × (q.column <ℤ c)) → is_free (area_at q k l) placed ≡ false
        at_found e (inl a) (inl b) = absurd (omega (arith, ints))
        at_found e (inl a) (inr b) = let s = b.0 in absurd (omega (arith, ints))
        at_found e (inr a) (inl b) = let s = a.0 in absurd (omega (arith, ints))
        at_found e (inr a) (inr b) = in_this_row placed columns k l from q c a.0 a.1 b.1 same

        in_later : int_le (c +ℤ pos k) columns.end ≡ false → IsEarlier columns k from (free_position placed columns k l n (record { column = columns.start; row = from.row +ℤ pos 1 })) q → (from.row <ℤ q.row) ⊎ ((from.row ≡ q.row) × (from.column ≤ℤ q.column)) → is_free (area_at q k l) placed ≡ false
        in_later t e (inl a) = later (next_row columns k from (free_position placed columns k l n (record { column = columns.start; row = from.row +ℤ pos 1 })) q e a)
        in_later t e (inr a) = let ends = e.ends in in_this_row placed columns k l from q c a.0 a.1 (omega (arith, ints)) same

        by : (t : Bool) → int_le (c +ℤ pos k) columns.end ≡ t → IsEarlier columns k from (if t then record { column = c; row = from.row } else free_position placed columns k l n (record { column = columns.start; row = from.row +ℤ pos 1 })) q → is_free (area_at q k l) placed ≡ false
        by true t e = at_found e e.reached e.passed
        by false t e = in_later t e e.reached
