-- The search in one row, and in the rows below it.
use Rattle.std.proofs.Common.{arith, ◌≡◌, refl, sym, ◌∙◌, ap, true≢false, ℕ, zero, suc, ℤ, pos, negsuc, ◌+ℤ◌, ◌-ℤ◌, ◌≤ℤ◌, ◌<ℤ◌, Bool, true, false, List}
use Rattle.std.proofs.lemmas.Int.{ints}
use Rattle.lunit.specs.Areas.{is_free}
use Rattle.occupancy.specs.Searches.{from_row, IsSteady}
use Rattle.lunit.specs.declared.geometry.Area.{Area}
use Rattle.lunit.specs.declared.geometry.Span.{Span}
use Rattle.part_rules.specs.Lists.{above_zero}
use Rattle.part_rules.specs.Placement.{to_end, far_column, free_column}
use Rattle.part_rules.proofs.Placed.{free_column_free, none_before}
use Rattle.grid_placement.specs.InRow.{NoneBetween, NoneFree, IsFirst}
use Rattle.grid_placement.proofs.Least.{column_after}

-- ---- the columns from the place found in a row

-- no column before the one found is free
least : (held : List Area) (k : ℕ) (rows : Span) (from x : ℤ) → from ≤ℤ x → x <ℤ free_column held k rows from → is_free (record { columns = to_end x k; rows = rows }) held ≡ false
least held k rows from x = none_before (λ c. record { columns = to_end c k; rows = rows }) held (above_zero (far_column held from -ℤ from)) from x

pub first_found : (held : List Area) (k : ℕ) (rows : Span) (from end x : ℤ) (columns : Span) → columns ≡ to_end x k → x ≡ free_column held k rows from → columns.end ≤ℤ end → IsFirst held k rows from end columns
first_found held k rows from end x columns e f within =
    let start : columns.start ≡ free_column held k rows from = (λ i. (e i).start) ∙ f in
    let low = column_after held k rows from in
    record {
      span = e ∙ (λ i. to_end (sym (λ j. (e j).start) i) k);
      after = omega (arith, ints);
      within = within;
      free = ap (λ (c : Span). is_free (record { columns = c; rows = rows }) held) (e ∙ λ i. to_end (f i) k) ∙ free_column_free held k rows from;
      none = record { taken = λ z from_z to_z. least held k rows from z from_z (omega (arith, ints)) };
    }

pub none_found : (held : List Area) (k : ℕ) (rows : Span) (from end x : ℤ) (columns : Span) → columns ≡ to_end x k → x ≡ free_column held k rows from → end <ℤ columns.end → NoneFree held k rows from (end -ℤ pos k +ℤ pos 1)
none_found held k rows from end x columns e f past =
    let last : columns.end ≡ x +ℤ pos k = λ i. (e i).end in
    record { taken = λ z from_z to_z. least held k rows from z from_z (omega (arith, ints)) }

-- ---- the rows below it

-- no row is strictly between two that follow each other
pub none_next : (held : List Area) (k l : ℕ) (from before row next : ℤ) → next ≤ℤ (row +ℤ pos 1) → NoneBetween held k l from before row next
none_next held k l from before row next e = record { taken = λ x y low high left right. absurd (omega (arith, ints)) }

-- where nothing becomes free, none is free below a row in which none is
pub none_below : (held : List Area) (k l : ℕ) (rows : Span) (start from before row here far next : ℤ) → row ≡ rows.start → here ≡ row → rows ≡ to_end rows.start l → start ≤ℤ from → NoneFree held k rows start before → IsSteady held here far → next ≤ℤ far → NoneBetween held k l from before row next
none_below held k l rows start from before row here far next re he rows_are low none steady near = record { taken = λ x y above below left right. go (y -ℤ row) x y refl above (omega (arith, ints)) left right }
  where
    all : (n : ℕ) (x y : ℤ) → y ≡ row +ℤ pos n → y <ℤ far → from ≤ℤ x → x <ℤ before → is_free (record { columns = to_end x k; rows = to_end y l }) held ≡ false
    all zero x y e high left right =
        let same : rows ≡ to_end y l = rows_are ∙ λ i. to_end (first i) l in
        ap (λ (r : Span). is_free (record { columns = to_end x k; rows = r }) held) (sym same) ∙ none.taken x (omega (arith, ints)) right
      where
        first : rows.start ≡ y
        first = omega (arith, ints)
    all (suc n) x y e high left right = by (all n x (y -ℤ pos 1) (omega (arith, ints)) (omega (arith, ints)) left right) (is_free (record { columns = to_end x k; rows = to_end y l }) held) refl
      where
        up : from_row (record { columns = to_end x k; rows = to_end y l }) (y -ℤ pos 1) ≡ record { columns = to_end x k; rows = to_end (y -ℤ pos 1) l }
        up = ap (λ z. record { columns = to_end x k; rows = record { start = y -ℤ pos 1; end = y -ℤ pos 1 +ℤ z } }) height
          where
            height : (y +ℤ pos l -ℤ y) ≡ pos l
            height = omega (arith, ints)

        by : is_free (record { columns = to_end x k; rows = to_end (y -ℤ pos 1) l }) held ≡ false → (b : Bool) → is_free (record { columns = to_end x k; rows = to_end y l }) held ≡ b → b ≡ false
        by taken false f = refl
        by taken true f =
            let moved = steady.up (record { columns = to_end x k; rows = to_end y l }) (omega (arith, ints)) high f in
            absurd (true≢false (sym (ap (λ (a : Area). is_free a held) (sym up) ∙ moved) ∙ taken))

    go : (z x y : ℤ) → z ≡ y -ℤ row → row <ℤ y → y <ℤ far → from ≤ℤ x → x <ℤ before → is_free (record { columns = to_end x k; rows = to_end y l }) held ≡ false
    go (pos n) x y e above high left right = all n x y (omega (arith, ints)) high left right
    go (negsuc n) x y e above high left right = absurd (omega (arith, ints))
