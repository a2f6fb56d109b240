-- The least free line, by the areas themselves.
use Rattle.std.proofs.Common.{arith, rules, refl, sym, ap, subst, ◌∙◌, ◌≡◌, ℕ, ◌<◌, ℤ, pos, ◌+ℤ◌, ◌-ℤ◌, ◌≤ℤ◌, ◌<ℤ◌, Bool, true, false, not, ◌&&◌, ◌||◌, List, [], ◌∷◌, ◌++◌, int_lt, true≢false, if◌then◌else◌, length, drop, get_or, ◌+◌}
use Rattle.std.specs.Int.{int_max, int_min}
use Rattle.std.proofs.lemmas.Int.{ints, clamps}
use Rattle.std.proofs.lemmas.Bool.{and_from, and_parts}
use Rattle.std.proofs.lemmas.List.{drop_more}
use Rattle.lunit.specs.Areas.{areas_overlap, is_free, spans_overlap}
use Rattle.occupancy.specs.Searches.{from_column, from_row, IsNext, IsSteady}
use Rattle.lunit.specs.declared.geometry.Area.{Area}
use Rattle.lunit.specs.declared.geometry.Span.{Span}
use Rattle.cell_index.specs.declared.blocks.Blocks.{Blocks}
use Rattle.cell_index.specs.Held.{held_in}
use Rattle.cell_index.specs.Passed.{areas_passed, end_of, last_line, moved, HasIn, IsKept, IsReached}
use Rattle.cell_index.specs.Taken.{any_holds, holds, within}
use Rattle.cell_index.proofs.BlocksPassed.{meets_before, meets_on}
use Rattle.cell_index.proofs.Passed.{from_ge, from_lt}
use Rattle.cell_index.proofs.Spans.{to_within, within_from}
use Rattle.cell_index.proofs.Told.{held_is_shut, none_is_free, told_more}

-- ---- a list of areas

and_no : (u v : Bool) → v ≡ false → (u && v) ≡ false
and_no true v e = e
and_no false v e = refl

pub areas_later : (down : Bool) (across : Span) (k : ℕ) (areas : List Area) (line : ℤ) → line ≤ℤ areas_passed down across k areas line
areas_later down across k [] line = omega (arith, ints)
areas_later down across k (a ∷ rest) line = by (areas_overlap (moved down across k line) a) refl (areas_later down across k rest (end_of down a)) (areas_later down across k rest line)
  where
    by : (o : Bool) → areas_overlap (moved down across k line) a ≡ o → end_of down a ≤ℤ areas_passed down across k rest (end_of down a) → line ≤ℤ areas_passed down across k rest line → line ≤ℤ areas_passed down across k rest (if o then end_of down a else line)
    by true f g h = let less : line <ℤ end_of down a = meets_before down across k line a f in omega (arith, ints, less, g)
    by false f g h = h

pub areas_shut : (down : Bool) (across : Span) (k : ℕ) (areas : List Area) (line z : ℤ) → 0 < k → line ≤ℤ z → z <ℤ areas_passed down across k areas line → is_free (moved down across k z) areas ≡ false
areas_shut down across k [] line z some low high = absurd (omega (arith, ints, low, high))
areas_shut down across k (a ∷ rest) line z some low high =
    by (areas_overlap (moved down across k line) a) refl high (λ f h. areas_shut down across k rest (end_of down a) z some f h) (λ h. areas_shut down across k rest line z some low h)
  where
    later : (o : Bool) → is_free (moved down across k z) rest ≡ false → (not o && is_free (moved down across k z) rest) ≡ false
    later o h = and_no (not o) (is_free (moved down across k z) rest) h

    at : (b : Bool) → int_lt z (end_of down a) ≡ b → areas_overlap (moved down across k line) a ≡ true → (end_of down a ≤ℤ z → is_free (moved down across k z) rest ≡ false) → is_free (moved down across k z) (a ∷ rest) ≡ false
    at true g f past = ap (λ o. not o && is_free (moved down across k z) rest) (meets_on down across k line z a some f low (from_lt z (end_of down a) g))
    at false g f past = later (areas_overlap (moved down across k z) a) (past (from_ge z (end_of down a) g))

    by : (o : Bool) → areas_overlap (moved down across k line) a ≡ o → z <ℤ areas_passed down across k rest (if o then end_of down a else line) → (end_of down a ≤ℤ z → z <ℤ areas_passed down across k rest (end_of down a) → is_free (moved down across k z) rest ≡ false)
        → (z <ℤ areas_passed down across k rest line → is_free (moved down across k z) rest ≡ false) → is_free (moved down across k z) (a ∷ rest) ≡ false
    by true f h past same = at (int_lt z (end_of down a)) refl f (λ g. past g h)
    by false f h past same = later (areas_overlap (moved down across k z) a) (same h)

pub areas_free : (down : Bool) (across : Span) (k : ℕ) (areas : List Area) (line : ℤ) → areas_passed down across k areas line ≤ℤ line → is_free (moved down across k line) areas ≡ true
areas_free down across k [] line h = refl
areas_free down across k (a ∷ rest) line h = by (areas_overlap (moved down across k line) a) refl h (λ g. areas_free down across k rest line g)
  where
    by : (o : Bool) → areas_overlap (moved down across k line) a ≡ o → areas_passed down across k rest (if o then end_of down a else line) ≤ℤ line
        → (areas_passed down across k rest line ≤ℤ line → is_free (moved down across k line) rest ≡ true) → (not o && is_free (moved down across k line) rest) ≡ true
    by true f g same =
        let less : line <ℤ end_of down a = meets_before down across k line a f in
        let low : end_of down a ≤ℤ areas_passed down across k rest (end_of down a) = areas_later down across k rest (end_of down a) in
        absurd (omega (arith, ints, less, low, g))
    by false f g same = same g

-- the lines so far from which so many tracks are not free
pub record AreShut (at : ℤ → Area) (areas : List Area) (from to : ℤ) : Type 0 where
  pub later : from ≤ℤ to
  pub none : (z : ℤ) → from ≤ℤ z → z <ℤ to → is_free (at z) areas ≡ false

pub shut_begins : (at : ℤ → Area) (areas : List Area) (from to : ℤ) → from ≡ to → AreShut at areas from to
shut_begins at areas from to e = record { later = omega (arith, ints, e); none = λ z low high. absurd (omega (arith, ints, e, low, high)) }

pub shut_goes_on : (down : Bool) (across : Span) (k : ℕ) (areas : List Area) (from to here next now : ℤ) → 0 < k → here ≡ to → now ≡ next → AreShut (moved down across k) areas from to → next ≡ areas_passed down across k areas here → AreShut (moved down across k) areas from now
shut_goes_on down across k areas from to here next now some f g h e0 =
    let e : now ≡ areas_passed down across k areas here = g ∙ e0 in
    let l : from ≤ℤ to = h.later in
    let m : here ≤ℤ areas_passed down across k areas here = areas_later down across k areas here in
    record { later = omega (arith, ints, l, m, e, f); none = λ z low high. by z (int_lt z to) refl low (omega (arith, ints, high, e)) }
  where
    by : (z : ℤ) (b : Bool) → int_lt z to ≡ b → from ≤ℤ z → z <ℤ areas_passed down across k areas here → is_free (moved down across k z) areas ≡ false
    by z true g low high = h.none z low (from_lt z to g)
    by z false g low high = let k1 : to ≤ℤ z = from_ge z to g in areas_shut down across k areas here z some (omega (arith, ints, k1, f)) high

pub shut_ends : (down : Bool) (across : Span) (k : ℕ) (areas : List Area) (start from to here next out : ℤ) → from ≡ start → here ≡ to → out ≡ to → AreShut (moved down across k) areas from to → next ≡ areas_passed down across k areas here → next ≤ℤ to → IsNext (moved down across k) areas start out
shut_ends down across k areas start from to here next out d f g h e stays =
    let same : out ≡ here = g ∙ sym f in
    record {
      after = let l : from ≤ℤ to = h.later in omega (arith, ints, l, g, d);
      free = ap (λ z. is_free (moved down across k z) areas) same ∙ areas_free down across k areas here (omega (arith, ints, e, stays, f));
      none = λ z low high. h.none z (omega (arith, ints, low, d)) (omega (arith, ints, high, g));
    }

-- one area of those that are left
pub areas_step : (down : Bool) (across : Span) (k : ℕ) (areas : List Area) (i : ℕ) (d : Area) (line next : ℤ) → i < length areas → next ≡ (if areas_overlap (moved down across k line) (get_or areas i d) then end_of down (get_or areas i d) else line)
    → areas_passed down across k (drop (i + 1) areas) next ≡ areas_passed down across k (drop i areas) line
areas_step down across k areas i d line next h e = ap (λ z. areas_passed down across k (drop (i + 1) areas) z) e ∙ sym (ap (λ xs. areas_passed down across k xs line) (drop_more areas i d h))

-- ---- the area that is moved

next_is_same : (at other : ℤ → Area) (areas : List Area) (from line first out : ℤ) → first ≡ from → out ≡ line → ((z : ℤ) → at z ≡ other z) → IsNext at areas from line → IsNext other areas first out
next_is_same at other areas from line first out e f same h = record {
  after = let a : from ≤ℤ line = h.after in omega (arith, ints, a, e, f);
  free = ap (λ a. is_free a areas) (sym (same out)) ∙ ap (λ z. is_free (at z) areas) f ∙ h.free;
  none = λ z low high. ap (λ a. is_free a areas) (sym (same z)) ∙ h.none z (omega (arith, ints, low, e)) (omega (arith, ints, high, f));
}

pub next_column_is : (a : Area) (k : ℕ) (areas now : List Area) (from line first out : ℤ) → areas ≡ now → first ≡ from → out ≡ line → pos k ≡ a.columns.end -ℤ a.columns.start → IsNext (moved false a.rows k) areas from line → IsNext (from_column a) now first out
next_column_is a k areas now from line first out same e f g h =
    subst (λ l. IsNext (from_column a) l first out) same
    (next_is_same (moved false a.rows k) (from_column a) areas from line first out e f (λ z. ap (λ t. record { columns = record { start = z; end = z +ℤ t }; rows = a.rows }) g) h)

pub next_row_is : (a : Area) (k : ℕ) (areas now : List Area) (from line first out : ℤ) → areas ≡ now → first ≡ from → out ≡ line → pos k ≡ a.rows.end -ℤ a.rows.start → IsNext (moved true a.columns k) areas from line → IsNext (from_row a) now first out
next_row_is a k areas now from line first out same e f g h =
    subst (λ l. IsNext (from_row a) l first out) same
    (next_is_same (moved true a.columns k) (from_row a) areas from line first out e f (λ z. ap (λ t. record { columns = a.columns; rows = record { start = z; end = z +ℤ t } }) g) h)

-- ---- an area without cells

lt_from : (a b : ℤ) → int_lt a b ≡ true → a <ℤ b
lt_from a b h = search rules

to_lt : (a b : ℤ) → a <ℤ b → int_lt a b ≡ true
to_lt a b h = search rules

span_has : (a b : Span) → spans_overlap a b ≡ true → a.start <ℤ a.end
span_has a b h =
    let less : int_max a.start b.start <ℤ int_min a.end b.end = lt_from (int_max a.start b.start) (int_min a.end b.end) h in
    omega (arith, ints, clamps, less)

empty_is_free : (a : Area) (areas : List Area) → (int_lt a.rows.start a.rows.end && int_lt a.columns.start a.columns.end) ≡ false → is_free a areas ≡ true
empty_is_free a [] h = refl
empty_is_free a (b ∷ bs) h = by (areas_overlap a b) refl (empty_is_free a bs h)
  where
    by : (o : Bool) → areas_overlap a b ≡ o → is_free a bs ≡ true → (not o && is_free a bs) ≡ true
    by false e rest = rest
    by true e rest =
        let parts : (spans_overlap a.columns b.columns ≡ true) × (spans_overlap a.rows b.rows ≡ true) = and_parts (spans_overlap a.columns b.columns) (spans_overlap a.rows b.rows) e in
        absurd (true≢false (sym (and_from (int_lt a.rows.start a.rows.end) (int_lt a.columns.start a.columns.end) (to_lt a.rows.start a.rows.end (span_has a.rows b.rows parts.1)) (to_lt a.columns.start a.columns.end (span_has a.columns b.columns parts.0))) ∙ h))

pub empty_column : (a : Area) (areas : List Area) (line : ℤ) → line ≡ a.columns.start → (int_lt a.rows.start a.rows.end && int_lt a.columns.start a.columns.end) ≡ false → IsNext (from_column a) areas a.columns.start line
empty_column a areas line e h =
    let end : (line +ℤ (a.columns.end -ℤ a.columns.start)) ≡ a.columns.end = omega (arith, ints, e) in
    record {
      after = omega (arith, ints, e);
      free = empty_is_free (from_column a line) areas (ap (λ z. int_lt a.rows.start a.rows.end && int_lt z (line +ℤ (a.columns.end -ℤ a.columns.start))) e ∙ ap (λ z. int_lt a.rows.start a.rows.end && int_lt a.columns.start z) end ∙ h);
      none = λ z low high. absurd (omega (arith, ints, e, low, high));
    }

pub empty_row : (a : Area) (areas : List Area) (line : ℤ) → line ≡ a.rows.start → (int_lt a.rows.start a.rows.end && int_lt a.columns.start a.columns.end) ≡ false → IsNext (from_row a) areas a.rows.start line
empty_row a areas line e h =
    let end : (line +ℤ (a.rows.end -ℤ a.rows.start)) ≡ a.rows.end = omega (arith, ints, e) in
    record {
      after = omega (arith, ints, e);
      free = empty_is_free (from_row a line) areas (ap (λ z. int_lt z (line +ℤ (a.rows.end -ℤ a.rows.start)) && int_lt a.columns.start a.columns.end) e ∙ ap (λ z. int_lt a.rows.start z && int_lt a.columns.start a.columns.end) end ∙ h);
      none = λ z low high. absurd (omega (arith, ints, e, low, high));
    }

-- ---- what the blocks tell of the areas

far_none : (down : Bool) (across : Span) (k : ℕ) (line row column : ℤ) (areas : List Area) → last_line ≤ℤ line → ((row column : ℤ) → last_line ≤ℤ column → any_holds areas row column ≡ false) → ((row column : ℤ) → last_line ≤ℤ row → any_holds areas row column ≡ false)
    → holds (moved down across k line) row column ≡ true → any_holds areas row column ≡ false
far_none false across k line row column areas far right below h =
    let s : Span = record { start = line; end = line +ℤ pos k } in
    let c : (line ≤ℤ column) × (column <ℤ (line +ℤ pos k)) = within_from s column (and_parts (within across row) (within s column) h).1 in
    right row column (omega (arith, ints, far, c.0))
far_none true across k line row column areas far right below h =
    let s : Span = record { start = line; end = line +ℤ pos k } in
    let r : (line ≤ℤ row) × (row <ℤ (line +ℤ pos k)) = within_from s row (and_parts (within s row) (within across column) h).0 in
    below row column (omega (arith, ints, far, r.0))

pub reached_is_next : (down : Bool) (across : Span) (k : ℕ) (areas : List Area) (blocks : Blocks) (from line : ℤ) → ((row column : ℤ) → held_in blocks row column ≡ any_holds areas row column) → ((row column : ℤ) → last_line ≤ℤ column → any_holds areas row column ≡ false) →
    ((row column : ℤ) → last_line ≤ℤ row → any_holds areas row column ≡ false)
    → IsReached (held_in blocks) (moved down across k) from line → IsNext (moved down across k) areas from line
reached_is_next down across k areas blocks from line told right below h = record {
  after = h.taken.later;
  free = by (int_lt line last_line) refl;
  none = λ z low high. let cell : HasIn (held_in blocks) (moved down across k z) = h.taken.each z low high in held_is_shut (moved down across k z) areas cell.row cell.column cell.inside (sym (told cell.row cell.column) ∙ cell.is);
}
  where
    by : (b : Bool) → int_lt line last_line ≡ b → is_free (moved down across k line) areas ≡ true
    by true e = none_is_free (moved down across k line) areas (λ row column inside. sym (told row column) ∙ (h.free (from_lt line last_line e)).each row column inside)
    by false e = none_is_free (moved down across k line) areas (λ row column inside. far_none down across k line row column areas (from_ge line last_line e) right below inside)

-- ---- rows in which nothing becomes free

pub kept_is_steady : (areas now : List Area) (blocks : Blocks) (row at next found : ℤ) → areas ≡ now → at ≡ row → found ≡ next → ((row column : ℤ) → held_in blocks row column ≡ any_holds areas row column) → IsKept (held_in blocks) at next → IsSteady now row found
kept_is_steady areas now blocks row at next found list same other told kept =
    subst (λ l. IsSteady l row found) list
    (record { later = h.later; up = λ a low high free. none_is_free (from_row a (a.rows.start -ℤ pos 1)) areas (λ y column inside. none a low high free y column inside) })
  where
    h : IsKept (held_in blocks) row found
    h = subst (λ z. IsKept (held_in blocks) row z) (sym other) (subst (λ z. IsKept (held_in blocks) z next) same kept)

    none : (a : Area) → row <ℤ a.rows.start → a.rows.start <ℤ found → is_free a areas ≡ true → (y column : ℤ) → holds (from_row a (a.rows.start -ℤ pos 1)) y column ≡ true → any_holds areas y column ≡ false
    none a low high free y column inside = by (any_holds areas y column) refl (int_lt y a.rows.start) refl
      where
        s : Span
        s = record { start = a.rows.start -ℤ pos 1; end = a.rows.start -ℤ pos 1 +ℤ (a.rows.end -ℤ a.rows.start) }

        parts : (within s y ≡ true) × (within a.columns column ≡ true)
        parts = and_parts (within s y) (within a.columns column) inside

        r : ((a.rows.start -ℤ pos 1) ≤ℤ y) × (y <ℤ (a.rows.start -ℤ pos 1 +ℤ (a.rows.end -ℤ a.rows.start)))
        r = within_from s y parts.0

        taken_at : (z : ℤ) → a.rows.start ≤ℤ z → z <ℤ a.rows.end → any_holds areas z column ≡ true → ⊥
        taken_at z from to e = true≢false (sym free ∙ held_is_shut a areas z column (and_from (within a.rows z) (within a.columns column) (to_within a.rows z from to) parts.1) e)

        by : (b : Bool) → any_holds areas y column ≡ b → (t : Bool) → int_lt y a.rows.start ≡ t → b ≡ false
        by false e t f = refl
        by true e false f = absurd (taken_at y (from_ge y a.rows.start f) (omega (arith, ints, r.1)) e)
        by true e true f =
            let less : y <ℤ a.rows.start = from_lt y a.rows.start f in
            let same : y ≡ a.rows.start -ℤ pos 1 = omega (arith, ints, less, r.0) in
            let before : held_in blocks (a.rows.start -ℤ pos 1) column ≡ true = told (a.rows.start -ℤ pos 1) column ∙ ap (λ z. any_holds areas z column) (sym same) ∙ e in
            absurd (taken_at a.rows.start (omega (arith, ints)) (omega (arith, ints, r.1, same)) (sym (told a.rows.start column) ∙ h.each a.rows.start column low high before))

-- each row is up to the next one
pub next_is_steady : (areas : List Area) (row next : ℤ) → next ≡ row +ℤ pos 1 → IsSteady areas row next
next_is_steady areas row next e = record { later = omega (arith, ints, e); up = λ a low high free. absurd (omega (arith, ints, e, low, high)) }

-- ---- one area more

or_none : (u v : Bool) → u ≡ false → v ≡ false → (u || v) ≡ false
or_none false v e f = f
or_none true v e f = absurd (true≢false e)

right_of : (a : Area) (row column : ℤ) → a.columns.end ≤ℤ column → holds a row column ≡ false
right_of a row column h = by (holds a row column) refl
  where
    by : (b : Bool) → holds a row column ≡ b → b ≡ false
    by false e = refl
    by true e = let c : (a.columns.start ≤ℤ column) × (column <ℤ a.columns.end) = within_from a.columns column (and_parts (within a.rows row) (within a.columns column) e).1 in absurd (omega (arith, ints, c.1, h))

below_of : (a : Area) (row column : ℤ) → a.rows.end ≤ℤ row → holds a row column ≡ false
below_of a row column h = by (holds a row column) refl
  where
    by : (b : Bool) → holds a row column ≡ b → b ≡ false
    by false e = refl
    by true e = let r : (a.rows.start ≤ℤ row) × (row <ℤ a.rows.end) = within_from a.rows row (and_parts (within a.rows row) (within a.columns column) e).0 in absurd (omega (arith, ints, r.1, h))

pub right_more : (areas now : List Area) (a : Area) → now ≡ areas ++ a ∷ [] → a.columns.end ≤ℤ last_line → ((row column : ℤ) → last_line ≤ℤ column → any_holds areas row column ≡ false) → (row column : ℤ) → last_line ≤ℤ column → any_holds now row column ≡ false
right_more areas now a e near h row column far = ap (λ l. any_holds l row column) e ∙ told_more areas a row column ∙ or_none (any_holds areas row column) (holds a row column) (h row column far) (right_of a row column (omega (arith, ints, near, far)))

pub below_more : (areas now : List Area) (a : Area) → now ≡ areas ++ a ∷ [] → a.rows.end ≤ℤ last_line → ((row column : ℤ) → last_line ≤ℤ row → any_holds areas row column ≡ false) → (row column : ℤ) → last_line ≤ℤ row → any_holds now row column ≡ false
below_more areas now a e near h row column far = ap (λ l. any_holds l row column) e ∙ told_more areas a row column ∙ or_none (any_holds areas row column) (holds a row column) (h row column far) (below_of a row column (omega (arith, ints, near, far)))

pub told_now : (areas now : List Area) (blocks after : Blocks) (a : Area) → now ≡ areas ++ a ∷ [] → ((row column : ℤ) → held_in blocks row column ≡ any_holds areas row column) → ((row column : ℤ) → held_in after row column ≡ (held_in blocks row column || holds a row column))
    → (row column : ℤ) → held_in after row column ≡ any_holds now row column
told_now areas now blocks after a e told more row column = more row column ∙ ap (λ t. t || holds a row column) (told row column) ∙ sym (told_more areas a row column) ∙ ap (λ xs. any_holds xs row column) (sym e)

pub ruleset area_more = (told_more, right_more, below_more)
