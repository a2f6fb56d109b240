-- The least free place along one axis.
use Rattle.std.proofs.Common.{arith, rules, ap, ◌≡◌, refl, sym, ◌∙◌, subst, true≢false, ℕ, zero, suc, ℤ, pos, ◌+ℤ◌, ◌-ℤ◌, ◌≤ℤ◌, Bool, true, false, not, int_lt, List, [], ◌∷◌, ◌++◌, if◌then◌else◌}
use Rattle.std.proofs.lemmas.Int.{ints}
use Rattle.lunit.specs.Areas.{areas_overlap, is_free}
use Rattle.occupancy.specs.Searches.{from_column, from_row, IsNext}
use Rattle.lunit.specs.declared.geometry.Area.{Area}
use Rattle.lunit.specs.declared.geometry.Span.{Span}
use Rattle.part_rules.specs.Lists.{above_zero}
use Rattle.part_rules.specs.Placement.{to_end, first_free, far_column, far_row, free_column, free_row}
use Rattle.part_rules.proofs.Placed.{none_before, free_column_free, free_row_free}
use Rattle.grid_placement.specs.Near.{AllEndBy}
use Rattle.grid_placement.proofs.Near.{both_pass, pass_both, taken_starts}

-- the place found is not before where the search begins
pub found_after : (area : ℤ → Area) (held : List Area) (n : ℕ) (from : ℤ) → from ≤ℤ first_free area held n from
found_after area held zero from = omega (arith, ints)
found_after area held (suc n) from = go (is_free (area from) held) (found_after area held n (from +ℤ pos 1))
  where
    go : (b : Bool) → (from +ℤ pos 1) ≤ℤ first_free area held n (from +ℤ pos 1) → from ≤ℤ (if b then from else first_free area held n (from +ℤ pos 1))
    go true h = omega (arith, ints)
    go false h = omega (arith, ints)

-- A free place that is not after the place found is that place.
found_here : (area : ℤ → Area) (held : List Area) (n : ℕ) (from x : ℤ) → from ≤ℤ x → x ≤ℤ first_free area held n from → is_free (area x) held ≡ true → x ≡ first_free area held n from
found_here area held n from x low high free = go (int_lt x (first_free area held n from)) refl
  where
    go : (t : Bool) → int_lt x (first_free area held n from) ≡ t → x ≡ first_free area held n from
    go true t = absurd (true≢false (sym free ∙ none_before area held n from x low (search rules)))
    go false t = let k : first_free area held n from ≤ℤ x = search rules in omega (arith, ints)

-- A search that begins between where another began and what it found finds the same.
found_again : (area : ℤ → Area) (held : List Area) (m n : ℕ) (from x : ℤ) → from ≤ℤ x → x ≤ℤ first_free area held m from → is_free (area (first_free area held m from)) held ≡ true → is_free (area (first_free area held n x)) held ≡ true
    → first_free area held n x ≡ first_free area held m from
found_again area held m n from x low high one two = go (int_lt (first_free area held n x) (first_free area held m from)) (int_lt (first_free area held m from) (first_free area held n x)) refl refl
  where
    go : (s t : Bool) → int_lt (first_free area held n x) (first_free area held m from) ≡ s → int_lt (first_free area held m from) (first_free area held n x) ≡ t → first_free area held n x ≡ first_free area held m from
    go true t e f = let h = found_after area held n x in absurd (true≢false (sym two ∙ none_before area held m from (first_free area held n x) (omega (arith, ints)) (search rules)))
    go false true e f = absurd (true≢false (sym one ∙ none_before area held n x (first_free area held m from) high (search rules)))
    go false false e f =
        let a : first_free area held m from ≤ℤ first_free area held n x = search rules in
        let b : first_free area held n x ≤ℤ first_free area held m from = search rules in
        omega (arith, ints)

-- what is free of more is free of the first ones
pub free_first : (x : Area) (held new : List Area) → is_free x (held ++ new) ≡ true → is_free x held ≡ true
free_first x [] new h = refl
free_first x (a ∷ held) new h = let p = both_pass (not (areas_overlap x a)) (is_free x (held ++ new)) h in pass_both (not (areas_overlap x a)) (is_free x held) p.0 (free_first x held new p.1)

-- Where more is taken, the place found is not before.
found_grows : (area : ℤ → Area) (held new : List Area) (m n : ℕ) (from : ℤ) → is_free (area (first_free area (held ++ new) n from)) (held ++ new) ≡ true → first_free area held m from ≤ℤ first_free area (held ++ new) n from
found_grows area held new m n from free = go (int_lt (first_free area (held ++ new) n from) (first_free area held m from)) refl
  where
    go : (t : Bool) → int_lt (first_free area (held ++ new) n from) (first_free area held m from) ≡ t → first_free area held m from ≤ℤ first_free area (held ++ new) n from
    go true e = absurd (true≢false (sym (free_first (area (first_free area (held ++ new) n from)) held new free) ∙ none_before area held m from (first_free area (held ++ new) n from) (found_after area (held ++ new) n from) (search rules)))
    go false e = search rules

-- ---- columns

pub column_after : (held : List Area) (k : ℕ) (rows : Span) (from : ℤ) → from ≤ℤ free_column held k rows from
column_after held k rows from = found_after (λ c. record { columns = to_end c k; rows = rows }) held (above_zero (far_column held from -ℤ from)) from

pub column_near : (line : ℤ) (held : List Area) (k : ℕ) (rows : Span) (from : ℤ) → AllEndBy line held → from ≤ℤ line → free_column held k rows from ≤ℤ line
column_near line held k rows from h l = go (int_lt line (free_column held k rows from)) refl
  where
    go : (t : Bool) → int_lt line (free_column held k rows from) ≡ t → free_column held k rows from ≤ℤ line
    go true t =
        let taken = none_before (λ c. record { columns = to_end c k; rows = rows }) held (above_zero (far_column held from -ℤ from)) from line l (search rules) in
        let less = taken_starts line held (record { columns = to_end line k; rows = rows }) h taken in
        absurd (omega (arith, ints, less.0))
    go false t = search rules

-- ---- rows

pub row_after : (held : List Area) (columns : Span) (l : ℕ) (from : ℤ) → from ≤ℤ free_row held columns l from
row_after held columns l from = found_after (λ r. record { columns = columns; rows = to_end r l }) held (above_zero (far_row held from -ℤ from)) from

pub row_near : (line : ℤ) (held : List Area) (columns : Span) (l : ℕ) (from : ℤ) → AllEndBy line held → from ≤ℤ line → free_row held columns l from ≤ℤ line
row_near line held columns l from h n = go (int_lt line (free_row held columns l from)) refl
  where
    go : (t : Bool) → int_lt line (free_row held columns l from) ≡ t → free_row held columns l from ≤ℤ line
    go true t =
        let taken = none_before (λ r. record { columns = columns; rows = to_end r l }) held (above_zero (far_row held from -ℤ from)) from line n (search rules) in
        let less = taken_starts line held (record { columns = columns; rows = to_end line l }) h taken in
        absurd (omega (arith, ints, less.1))
    go false t = search rules

-- ---- what the cells tell

-- an area that is moved along the columns
moved_column : (a : Area) (k : ℕ) (rows : Span) (start z : ℤ) → a.columns ≡ to_end start k → a.rows ≡ rows → from_column a z ≡ record { columns = to_end z k; rows = rows }
moved_column a k rows start z e r =
    let first : a.columns.start ≡ start = λ i. (e i).start in
    let end : a.columns.end ≡ start +ℤ pos k = λ i. (e i).end in
    let width : a.columns.end -ℤ a.columns.start ≡ pos k = omega (arith, ints) in
    (λ i. record { columns = record { start = z; end = z +ℤ width i }; rows = r i })

moved_row : (a : Area) (l : ℕ) (columns : Span) (start z : ℤ) → a.rows ≡ to_end start l → a.columns ≡ columns → from_row a z ≡ record { columns = columns; rows = to_end z l }
moved_row a l columns start z e c =
    let first : a.rows.start ≡ start = λ i. (e i).start in
    let end : a.rows.end ≡ start +ℤ pos l = λ i. (e i).end in
    let height : a.rows.end -ℤ a.rows.start ≡ pos l = omega (arith, ints) in
    (λ i. record { columns = c i; rows = record { start = z; end = z +ℤ height i } })

-- The least free line is the place found.
least_found : (area : ℤ → Area) (held : List Area) (n : ℕ) (from x : ℤ) → is_free (area (first_free area held n from)) held ≡ true → IsNext area held from x → x ≡ first_free area held n from
least_found area held n from x found h = go (int_lt (first_free area held n from) x) refl
  where
    go : (t : Bool) → int_lt (first_free area held n from) x ≡ t → x ≡ first_free area held n from
    go true t = absurd (true≢false (sym found ∙ h.none (first_free area held n from) (found_after area held n from) (search rules)))
    go false t = found_here area held n from x h.after (search rules) h.free

next_of_same : (one two : ℤ → Area) (held : List Area) (from x : ℤ) → ((z : ℤ) → one z ≡ two z) → IsNext one held from x → IsNext two held from x
next_of_same one two held from x e h = record {
  after = h.after;
  free = ap (λ a. is_free a held) (sym (e x)) ∙ h.free;
  none = λ z low high. ap (λ a. is_free a held) (sym (e z)) ∙ h.none z low high;
}

-- The column that the cells tell is the one of the rules.
pub column_told : (held : List Area) (k : ℕ) (rows : Span) (from start x : ℤ) (a : Area) → start ≡ from → a.columns ≡ to_end start k → a.rows ≡ rows → IsNext (from_column a) held a.columns.start x → x ≡ free_column held k rows from
column_told held k rows from start x a se e r h =
    let first : a.columns.start ≡ from = (λ i. (e i).start) ∙ se in
    least_found (λ c. record { columns = to_end c k; rows = rows }) held (above_zero (far_column held from -ℤ from)) from x (free_column_free held k rows from)
    (next_of_same (from_column a) (λ c. record { columns = to_end c k; rows = rows }) held from x (λ z. moved_column a k rows start z e r)
    (subst (λ (z : ℤ). IsNext (from_column a) held z x) first h))

pub row_told : (held : List Area) (columns : Span) (l : ℕ) (from start x : ℤ) (a : Area) → start ≡ from → a.rows ≡ to_end start l → a.columns ≡ columns → IsNext (from_row a) held a.rows.start x → x ≡ free_row held columns l from
row_told held columns l from start x a se e c h =
    let first : a.rows.start ≡ from = (λ i. (e i).start) ∙ se in
    least_found (λ r. record { columns = columns; rows = to_end r l }) held (above_zero (far_row held from -ℤ from)) from x (free_row_free held columns l from)
    (next_of_same (from_row a) (λ r. record { columns = columns; rows = to_end r l }) held from x (λ z. moved_row a l columns start z e c)
    (subst (λ (z : ℤ). IsNext (from_row a) held z x) first h))

-- ---- searches that begin later, and cells of which more are taken

pub column_again : (held : List Area) (k : ℕ) (rows : Span) (from x : ℤ) → from ≤ℤ x → x ≤ℤ free_column held k rows from → free_column held k rows x ≡ free_column held k rows from
column_again held k rows from x low high = found_again (λ c. record { columns = to_end c k; rows = rows }) held (above_zero (far_column held from -ℤ from)) (above_zero (far_column held x -ℤ x)) from x low high (free_column_free held k rows from) (free_column_free held k rows x)

pub row_again : (held : List Area) (columns : Span) (l : ℕ) (from x : ℤ) → from ≤ℤ x → x ≤ℤ free_row held columns l from → free_row held columns l x ≡ free_row held columns l from
row_again held columns l from x low high = found_again (λ r. record { columns = columns; rows = to_end r l }) held (above_zero (far_row held from -ℤ from)) (above_zero (far_row held x -ℤ x)) from x low high (free_row_free held columns l from) (free_row_free held columns l x)

pub column_grows : (held new : List Area) (k : ℕ) (rows : Span) (from : ℤ) → free_column held k rows from ≤ℤ free_column (held ++ new) k rows from
column_grows held new k rows from = found_grows (λ c. record { columns = to_end c k; rows = rows }) held new (above_zero (far_column held from -ℤ from)) (above_zero (far_column (held ++ new) from -ℤ from)) from (free_column_free (held ++ new) k rows from)

pub row_grows : (held new : List Area) (columns : Span) (l : ℕ) (from : ℤ) → free_row held columns l from ≤ℤ free_row (held ++ new) columns l from
row_grows held new columns l from = found_grows (λ r. record { columns = columns; rows = to_end r l }) held new (above_zero (far_row held from -ℤ from)) (above_zero (far_row (held ++ new) from -ℤ from)) from (free_row_free (held ++ new) columns l from)
