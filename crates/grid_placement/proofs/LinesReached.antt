-- How far searches along one axis have come.
use Rattle.std.proofs.Common.{arith, ap, subst, ◌≡◌, refl, sym, ◌∙◌, ℕ, ℤ, pos, ◌≤ℤ◌, Bool, true, false, cond, List, ◌++◌}
use Rattle.std.specs.Prelude.{Some, unwrap_or}
use Rattle.std.specs.Ordering.{int_cmp, nat_cmp}
use Rattle.std.specs.BTreeMap.{BTreeMap, Updates, get, is_at}
use Rattle.std.proofs.lemmas.Int.{ints}
use Rattle.std.proofs.lemmas.Map.Lookups.{CmpEqualImpliesEq, exact_pairs, exact_signed, exact_unsigned}
use Rattle.std.proofs.lemmas.Map.Views.{tells_apart}
use Rattle.lunit.specs.declared.geometry.Area.{Area}
use Rattle.lunit.specs.declared.geometry.Span.{Span}
use Rattle.part_rules.specs.Placement.{free_column, free_row}
use Rattle.grid_placement.specs.Reached.{ColumnsReached, RowsReached, across_cmp, line_reached, lines_cmp}
use Rattle.grid_placement.proofs.Least.{column_again, column_after, column_grows, row_again, row_after, row_grows}

exact_across : CmpEqualImpliesEq across_cmp
exact_across = exact_pairs lines_cmp nat_cmp (exact_pairs int_cmp int_cmp exact_signed exact_signed) exact_unsigned

-- what holds of each line that was reached, and of the one that is kept, holds of each after
pub put_line : (m n : BTreeMap ((ℤ × ℤ) × ℕ) ℤ) (across : Span) (k : ℕ) (line first : ℤ) (P : ℤ → Span → ℕ → Type 0) → Updates across_cmp m n ((across.start, across.end), k) (Some line)
    → P line across k → ((a : Span) (j : ℕ) → P (line_reached m a j first) a j) → (a : Span) (j : ℕ) → P (line_reached n a j first) a j
put_line m n across k line first P u here others a j = go (is_at (across_cmp ((across.start, across.end), k)) ((a.start, a.end), j)) refl
  where
    go : (b : Bool) → is_at (across_cmp ((across.start, across.end), k)) ((a.start, a.end), j) ≡ b → P (line_reached n a j first) a j
    go true e =
        let key : ((across.start, across.end), k) ≡ ((a.start, a.end), j) = tells_apart exact_across ((across.start, across.end), k) ((a.start, a.end), j) e in
        let value : line_reached n a j first ≡ line = ap (λ o. unwrap_or o first) (u.0 ((a.start, a.end), j)) ∙ ap (λ (c : Bool). unwrap_or (cond c (Some line) (get across_cmp m ((a.start, a.end), j))) first) e in
        subst (λ (v : ℤ). P v a j) (sym value) (subst (λ (p : (ℤ × ℤ) × ℕ). P line (record { start = p.0.0; end = p.0.1 }) p.1) key here)
    go false e =
        let value : line_reached n a j first ≡ line_reached m a j first = ap (λ o. unwrap_or o first) (u.2 ((a.start, a.end), j) e) in
        subst (λ (v : ℤ). P v a j) (sym value) (others a j)

pub columns_put : (m n : BTreeMap ((ℤ × ℤ) × ℕ) ℤ) (held new : List Area) (rows : Span) (k : ℕ) (line : ℤ) → Updates across_cmp m n ((rows.start, rows.end), k) (Some line) → ColumnsReached m held → line ≡ free_column held k rows (pos 0) → ColumnsReached n (held ++ new)
columns_put m n held new rows k line u h e = record {
  low = put_line m n rows k line (pos 0) (λ v a j. pos 0 ≤ℤ v) u (let f = column_after held k rows (pos 0) in omega (arith, ints)) h.low;
  each = put_line m n rows k line (pos 0) (λ v a j. v ≤ℤ free_column (held ++ new) j a (pos 0)) u (let f = column_grows held new k rows (pos 0) in omega (arith, ints)) (λ a j. let f = h.each a j in let g = column_grows held new j a (pos 0) in omega (arith, ints));
}

pub rows_put : (m n : BTreeMap ((ℤ × ℤ) × ℕ) ℤ) (first : ℤ) (held new : List Area) (columns : Span) (l : ℕ) (line : ℤ) → Updates across_cmp m n ((columns.start, columns.end), l) (Some line) → RowsReached m first held → line ≡ free_row held columns l first → RowsReached n first (held ++ new)
rows_put m n first held new columns l line u h e = record {
  low = put_line m n columns l line first (λ v a j. first ≤ℤ v) u (let f = row_after held columns l first in omega (arith, ints)) h.low;
  each = put_line m n columns l line first (λ v a j. v ≤ℤ free_row (held ++ new) a j first) u (let f = row_grows held new columns l first in omega (arith, ints)) (λ a j. let f = h.each a j in let g = row_grows held new a j first in omega (arith, ints));
}

pub rows_grow : (m : BTreeMap ((ℤ × ℤ) × ℕ) ℤ) (first : ℤ) (held new : List Area) → RowsReached m first held → RowsReached m first (held ++ new)
rows_grow m first held new h = record { low = h.low; each = λ a j. let f = h.each a j in let g = row_grows held new a j first in omega (arith, ints) }

-- A search from where one has come to finds what it would find from the first place.
pub column_from_reached : (m : BTreeMap ((ℤ × ℤ) × ℕ) ℤ) (held : List Area) (k : ℕ) (rows : Span) → ColumnsReached m held → free_column held k rows (line_reached m rows k (pos 0)) ≡ free_column held k rows (pos 0)
column_from_reached m held k rows h = column_again held k rows (pos 0) (line_reached m rows k (pos 0)) (h.low rows k) (h.each rows k)

pub row_from_reached : (m : BTreeMap ((ℤ × ℤ) × ℕ) ℤ) (first : ℤ) (held : List Area) (columns : Span) (l : ℕ) → RowsReached m first held → free_row held columns l (line_reached m columns l first) ≡ free_row held columns l first
row_from_reached m first held columns l h = row_again held columns l first (line_reached m columns l first) (h.low columns l) (h.each columns l)
