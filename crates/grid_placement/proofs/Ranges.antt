-- Ranges of lines, and the columns of the field.
use Rattle.std.proofs.Common.{arith, ap, ◌≡◌, refl, sym, ◌∙◌, ℕ, ℤ, pos, ◌+ℤ◌, List, [], ◌∷◌, ◌++◌, map}
use Rattle.std.specs.Prelude.{option_to_list, flat_map}
use Rattle.std.specs.Int.{int_max, int_min}
use Rattle.std.proofs.lemmas.Int.{ints, clamps}
use Rattle.std.proofs.lemmas.List.{map-append}
use Rattle.lunit.specs.declared.geometry.Area.{Area}
use Rattle.lunit.specs.declared.geometry.Span.{Span}
use Rattle.part_rules.specs.Placement as rules
use Rattle.part_rules.specs.Placement.{with_span, range_of, definite_span, areas_of, columns_for, first_row, greatest_waiting, waiting_in}
use Rattle.grid_placement.specs.Fields.{range_on, columns_in, rows_in, columns_after, rows_after}

with_comm : (a b c : Span) → with_span a (with_span b c) ≡ with_span b (with_span a c)
with_comm a b c = λ i. record { start = go i; end = to i }
  where
    go : int_min a.start (int_min b.start c.start) ≡ int_min b.start (int_min a.start c.start)
    go = omega (arith, ints, clamps)

    to : int_max a.end (int_max b.end c.end) ≡ int_max b.end (int_max a.end c.end)
    to = omega (arith, ints, clamps)

one_first : (base s : Span) (xs : List Span) → range_on (with_span s base) xs ≡ with_span s (range_on base xs)
one_first base s [] = refl
one_first base s (x ∷ xs) = ap (with_span x) (one_first base s xs) ∙ with_comm x s (range_on base xs)

on_append : (base : Span) (xs ys : List Span) → range_on base (xs ++ ys) ≡ range_on (range_on base ys) xs
on_append base [] ys = refl
on_append base (x ∷ xs) ys = ap (with_span x) (on_append base xs ys)

on_swap : (base : Span) (xs ys : List Span) → range_on (range_on base xs) ys ≡ range_on (range_on base ys) xs
on_swap base [] ys = refl
on_swap base (x ∷ xs) ys = one_first (range_on base xs) x ys ∙ ap (with_span x) (on_swap base xs ys)

range_is : (explicit : ℕ) (xs : List Span) → range_of explicit xs ≡ range_on (record { start = pos 0; end = pos explicit }) xs
range_is explicit [] = refl
range_is explicit (x ∷ xs) = ap (with_span x) (range_is explicit xs)

-- the first range with some of one list, some of another, and then the rest of both
both_on : (base : Span) (d a ds more : List Span) → range_on (range_on (range_on base d) a) (ds ++ more) ≡ range_on base ((d ++ ds) ++ (a ++ more))
both_on base d a ds more =
    on_append (range_on (range_on base d) a) ds more
    ∙ ap (λ (b : Span). range_on b ds) (on_swap (range_on base d) a more ∙ ap (λ (b : Span). range_on b a) (on_swap base d more) ∙ on_swap (range_on base more) d a)
    ∙ on_swap (range_on (range_on base more) a) d ds
    ∙ sym (on_append base (d ++ ds) (a ++ more) ∙ on_append (range_on base (a ++ more)) d ds ∙ ap (λ (b : Span). range_on (range_on b ds) d) (on_append base a more))

pub columns_are : (base : Span) (es : List rules.Entry) → columns_after base es ≡ range_on base (flat_map (λ (e : rules.Entry). definite_span e.wish.column) es ++ map (λ (a : Area). a.columns) (areas_of es))
columns_are base [] = refl
columns_are base (e ∷ es) =
    columns_are (range_on (range_on base (definite_span e.wish.column)) (columns_in e.area)) es
    ∙ both_on base (definite_span e.wish.column) (columns_in e.area) (flat_map (λ (e : rules.Entry). definite_span e.wish.column) es) (map (λ (a : Area). a.columns) (areas_of es))
    ∙ ap (λ (m : List Span). range_on base ((definite_span e.wish.column ++ flat_map (λ (e : rules.Entry). definite_span e.wish.column) es) ++ m)) (sym (map-append (λ (a : Area). a.columns) (option_to_list e.area) (areas_of es)))

pub rows_are : (base : Span) (es : List rules.Entry) → rows_after base es ≡ range_on base (flat_map (λ (e : rules.Entry). definite_span e.wish.row) es ++ map (λ (a : Area). a.rows) (areas_of es))
rows_are base [] = refl
rows_are base (e ∷ es) =
    rows_are (range_on (range_on base (definite_span e.wish.row)) (rows_in e.area)) es
    ∙ both_on base (definite_span e.wish.row) (rows_in e.area) (flat_map (λ (e : rules.Entry). definite_span e.wish.row) es) (map (λ (a : Area). a.rows) (areas_of es))
    ∙ ap (λ (m : List Span). range_on base ((definite_span e.wish.row ++ flat_map (λ (e : rules.Entry). definite_span e.wish.row) es) ++ m)) (sym (map-append (λ (a : Area). a.rows) (option_to_list e.area) (areas_of es)))

-- the start does not depend on the explicit rows
same_start : (a b : Span) (xs : List Span) → a.start ≡ b.start → (range_on a xs).start ≡ (range_on b xs).start
same_start a b [] e = e
same_start a b (x ∷ xs) e = ap (int_min x.start) (same_start a b xs e)

pub first_row_is : (rows : ℕ) (es : List rules.Entry) → (rows_after (record { start = pos 0; end = pos 0 }) es).start ≡ first_row rows es
first_row_is rows es =
    let spans = flat_map (λ (e : rules.Entry). definite_span e.wish.row) es ++ map (λ (a : Area). a.rows) (areas_of es) in
    ap (λ (s : Span). s.start) (rows_are (record { start = pos 0; end = pos 0 }) es)
    ∙ same_start (record { start = pos 0; end = pos 0 }) (record { start = pos 0; end = pos rows }) spans refl
    ∙ ap (λ (s : Span). s.start) (sym (range_is rows spans))

pub columns_for_is : (explicit : ℕ) (es : List rules.Entry) (first last : ℤ) → (let range = columns_after (record { start = pos 0; end = pos explicit }) es in first ≡ range.start → last ≡ int_max range.end (range.start +ℤ pos (greatest_waiting es))
    → (let columns : Span = record { start = first; end = last } in columns ≡ columns_for explicit es))
columns_for_is explicit es first last f l =
    let spans = flat_map (λ (e : rules.Entry). definite_span e.wish.column) es ++ map (λ (a : Area). a.columns) (areas_of es) in
    let same : columns_after (record { start = pos 0; end = pos explicit }) es ≡ range_of explicit spans = columns_are (record { start = pos 0; end = pos explicit }) es ∙ sym (range_is explicit spans) in
    (λ i. record { start = f i; end = l i }) ∙ (λ i. record { start = (same i).start; end = int_max (same i).end ((same i).start +ℤ pos (greatest_waiting es)) })
