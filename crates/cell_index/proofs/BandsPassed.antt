-- A search that goes on past bands of rows.
use Rattle.std.proofs.Common.{arith, refl, sym, ap, subst, ◌∙◌, ◌≡◌, ℕ, ◌<◌, ℤ, pos, ◌+ℤ◌, ◌-ℤ◌, ◌≤ℤ◌, ◌<ℤ◌, Bool, true, false, not, ◌&&◌, inl, List, [], ◌∷◌, ◌++◌, append_assoc, get_or, int_le, int_lt, if◌then◌else◌, true≢false}
use Rattle.std.specs.Prelude.{filter}
use Rattle.std.specs.Int.{int_max}
use Rattle.std.specs.List.{AllByRecursion, list_all}
use Rattle.std.specs.List.Sorted.{IsStrictlySortedBy}
use Rattle.std.specs.Ordering.{int_cmp, is_lt}
use Rattle.std.specs.Map.{keys_of}
use Rattle.std.specs.declared.cmp.Ordering.TheVariants.{Less}
use Rattle.std.proofs.lemmas.Int.{ints, clamps}
use Rattle.std.proofs.lemmas.Bool.{and_from, and_parts}
use Rattle.std.proofs.lemmas.Map.Keys.{sorted_head, sorted_tail}
use Rattle.lunit.specs.declared.geometry.Span.{Span}
use Rattle.cell_index.specs.declared.columns.TakenColumns.{TakenColumns}
use Rattle.cell_index.specs.declared.bands.RowBands.{RowBands}
use Rattle.cell_index.specs.Taken.{held, is_open, reads, strictly, taken, within}
use Rattle.cell_index.specs.Passed.{bands_passed, is_shut, last_line, moved, reach, HasIn, HasNone, IsKept, IsPassed, IsPassedOver}
use Rattle.cell_index.proofs.Changes.{IsChange, less_from, no_item, none_yet, not_after, reads_free, shut_change}
use Rattle.cell_index.proofs.Edges.{IsShut, open_is_free, shut_has}
use Rattle.cell_index.proofs.Spans.{to_within, within_from}
use Rattle.cell_index.proofs.Passed.{from_ge, from_gt, from_le, from_lt, if_false, if_same, if_true, max_is, max_other, to_ge, to_gt, to_le, to_lt}

-- ---- the row that is found

pub bands_later : (columns : Span) (b : Bool) (es : List (ℤ × TakenColumns)) (line : ℤ) (k : ℕ) → line ≤ℤ bands_passed columns b es line k
bands_later columns false [] line k = omega (arith, ints)
bands_later columns true [] line k = omega (arith, ints, clamps)
bands_later columns false (e ∷ es) line k = by (int_lt e.0 (line +ℤ pos k)) (bands_later columns (is_shut columns e.1) es line k)
  where
    by : (b : Bool) → line ≤ℤ bands_passed columns (is_shut columns e.1) es line k → line ≤ℤ (if b then bands_passed columns (is_shut columns e.1) es line k else line)
    by true h = h
    by false h = omega (arith, ints)
bands_later columns true (e ∷ es) line k =
    let h : int_max line e.0 ≤ℤ bands_passed columns (is_shut columns e.1) es (int_max line e.0) k = bands_later columns (is_shut columns e.1) es (int_max line e.0) k in
    omega (arith, ints, clamps, h)

-- a row of so many, in whose band a column is taken
pub record IsShutRow (columns : Span) (before : Bool) (es : List (ℤ × TakenColumns)) (first : ℤ) (k : ℕ) : Type 0 where
  pub row : ℤ
  pub low : first ≤ℤ row
  pub high : row <ℤ (first +ℤ pos k)
  pub is : reads (is_shut columns) before es row ≡ true

-- so many rows from each row before it have one
pub bands_shut : (columns : Span) (b : Bool) (es : List (ℤ × TakenColumns)) (line z : ℤ) (k : ℕ) → IsStrictlySortedBy int_cmp (keys_of es) → 0 < k → line ≤ℤ z → z <ℤ bands_passed columns b es line k → IsShutRow columns b es z k
bands_shut columns false [] line z k sorted some low high = absurd (omega (arith, ints, low, high))
bands_shut columns true [] line z k sorted some low high = record { row = z; low = omega (arith, ints); high = omega (arith, ints, some); is = refl }
bands_shut columns false (e ∷ es) line z k sorted some low high =
    by (int_lt e.0 (line +ℤ pos k)) (is_shut columns e.1) (int_le e.0 z) refl refl refl high (λ b h. bands_shut columns b es line z k (sorted_tail int_cmp e.0 (keys_of es) sorted) some low h)
  where
    behind : AllByRecursion (λ y. int_cmp e.0 y ≡ Less) (keys_of es)
    behind = sorted_head int_cmp e.0 (keys_of es) sorted

    by : (b s c : Bool) → int_lt e.0 (line +ℤ pos k) ≡ b → is_shut columns e.1 ≡ s → int_le e.0 z ≡ c → z <ℤ (if b then bands_passed columns s es line k else line) → ((t : Bool) → z <ℤ bands_passed columns t es line k → IsShutRow columns t es z k) → IsShutRow columns false (e ∷ es) z k
    by false s c f g i h again = absurd (omega (arith, ints, low, h))
    by true false c f g i h again =
        let s : IsShutRow columns false es z k = again false h in
        record {
          row = s.row;
          low = s.low;
          high = s.high;
          is = if_same (int_le e.0 s.row) (reads (is_shut columns) (is_shut columns e.1) es s.row) (reads (is_shut columns) false es s.row) true (ap (λ t. reads (is_shut columns) t es s.row) g ∙ s.is) s.is;
        }
    by true true true f g i h again =
        let s : IsShutRow columns true es z k = again true h in
        let near : e.0 ≤ℤ z = from_le e.0 z i in
        record {
          row = s.row;
          low = s.low;
          high = s.high;
          is = if_true (int_le e.0 s.row) (reads (is_shut columns) (is_shut columns e.1) es s.row) (reads (is_shut columns) false es s.row) (to_le e.0 s.row (omega (arith, ints, near, s.low))) ∙ ap (λ t. reads (is_shut columns) t es s.row) g ∙ s.is;
        }
    by true true false f g i h again =
        let less : e.0 <ℤ (line +ℤ pos k) = from_lt e.0 (line +ℤ pos k) f in
        let far : z <ℤ e.0 = from_gt e.0 z i in
        record {
          row = e.0;
          low = omega (arith, ints, far);
          high = omega (arith, ints, less, low);
          is = if_true (int_le e.0 e.0) (reads (is_shut columns) (is_shut columns e.1) es e.0) (reads (is_shut columns) false es e.0) (to_le e.0 e.0 (omega (arith, ints))) ∙ none_yet (is_shut columns) (is_shut columns e.1) e.0 es e.0 behind (omega (arith, ints)) ∙ g;
        }
bands_shut columns true (e ∷ es) line z k sorted some low high =
    by (int_le e.0 z) refl (λ near. bands_shut columns (is_shut columns e.1) es (int_max line e.0) z k (sorted_tail int_cmp e.0 (keys_of es) sorted) some (omega (arith, ints, clamps, low, near)) high)
  where
    behind : AllByRecursion (λ y. int_cmp e.0 y ≡ Less) (keys_of es)
    behind = sorted_head int_cmp e.0 (keys_of es) sorted

    by : (c : Bool) → int_le e.0 z ≡ c → (e.0 ≤ℤ z → IsShutRow columns (is_shut columns e.1) es z k) → IsShutRow columns true (e ∷ es) z k
    by true i again =
        let near : e.0 ≤ℤ z = from_le e.0 z i in
        let s : IsShutRow columns (is_shut columns e.1) es z k = again near in
        record {
          row = s.row;
          low = s.low;
          high = s.high;
          is = if_true (int_le e.0 s.row) (reads (is_shut columns) (is_shut columns e.1) es s.row) (reads (is_shut columns) true es s.row) (to_le e.0 s.row (omega (arith, ints, near, s.low))) ∙ s.is;
        }
    by false i again =
        let far : z <ℤ e.0 = from_gt e.0 z i in
        record {
          row = z;
          low = omega (arith, ints);
          high = omega (arith, ints, some);
          is = if_false (int_le e.0 z) (reads (is_shut columns) (is_shut columns e.1) es z) (reads (is_shut columns) true es z) i ∙ none_yet (is_shut columns) true e.0 es z behind (omega (arith, ints, far));
        }

-- where it is the row itself, none of so many rows has one
pub bands_clear : (columns : Span) (b : Bool) (es : List (ℤ × TakenColumns)) (line row : ℤ) (k : ℕ) → IsStrictlySortedBy int_cmp (keys_of es) → line <ℤ last_line → bands_passed columns b es line k ≡ line → line ≤ℤ row → row <ℤ (line +ℤ pos k) → reads (is_shut columns) b es row ≡ false
bands_clear columns false [] line row k sorted less same low high = refl
bands_clear columns true [] line row k sorted less same low high = absurd (omega (arith, ints, clamps, less, same))
bands_clear columns false (e ∷ es) line row k sorted less same low high =
    by (int_lt e.0 (line +ℤ pos k)) (int_le e.0 row) refl refl same (λ h. bands_clear columns (is_shut columns e.1) es line row k (sorted_tail int_cmp e.0 (keys_of es) sorted) less h low high)
  where
    behind : AllByRecursion (λ y. int_cmp e.0 y ≡ Less) (keys_of es)
    behind = sorted_head int_cmp e.0 (keys_of es) sorted

    by : (b c : Bool) → int_lt e.0 (line +ℤ pos k) ≡ b → int_le e.0 row ≡ c → (if b then bands_passed columns (is_shut columns e.1) es line k else line) ≡ line →
        (bands_passed columns (is_shut columns e.1) es line k ≡ line → reads (is_shut columns) (is_shut columns e.1) es row ≡ false) → (if c then reads (is_shut columns) (is_shut columns e.1) es row else reads (is_shut columns) false es row) ≡ false
    by b false f g h again =
        let far : row <ℤ e.0 = from_gt e.0 row g in
        none_yet (is_shut columns) false e.0 es row behind (omega (arith, ints, far))
    by true true f g h again = again h
    by false true f g h again =
        let far : (line +ℤ pos k) ≤ℤ e.0 = from_ge e.0 (line +ℤ pos k) f in
        let near : e.0 ≤ℤ row = from_le e.0 row g in
        absurd (omega (arith, ints, far, near, high))
bands_clear columns true (e ∷ es) line row k sorted less same low high =
    let later : int_max line e.0 ≤ℤ bands_passed columns (is_shut columns e.1) es (int_max line e.0) k = bands_later columns (is_shut columns e.1) es (int_max line e.0) k in
    let near : e.0 ≤ℤ line = omega (arith, ints, clamps, later, same) in
    let here : int_max line e.0 ≡ line = max_is line e.0 near in
    if_true (int_le e.0 row) (reads (is_shut columns) (is_shut columns e.1) es row) (reads (is_shut columns) true es row) (to_le e.0 row (omega (arith, ints, near, low)))
    ∙ bands_clear columns (is_shut columns e.1) es line row k (sorted_tail int_cmp e.0 (keys_of es) sorted) less (subst (λ z. bands_passed columns (is_shut columns e.1) es z k ≡ line) here same) low high

-- ---- a band in which a column is taken

pub record IsTakenIn (columns : Span) (before : ℤ → Bool) (es : List (ℤ × TakenColumns)) (row : ℤ) : Type 0 where
  pub column : ℤ
  pub low : columns.start ≤ℤ column
  pub high : column <ℤ columns.end
  pub is : reads (λ (cs : TakenColumns). taken cs column) (before column) es row ≡ true

shut_from : (b : Bool) → not b ≡ true → b ≡ false
shut_from true h = absurd (true≢false (sym h))
shut_from false h = refl

open_from : (b : Bool) → not b ≡ false → b ≡ true
open_from true h = refl
open_from false h = absurd (true≢false h)

taken_after : (columns : Span) (v : TakenColumns) (es : List (ℤ × TakenColumns)) (row : ℤ) → columns.start <ℤ columns.end → reads (is_shut columns) (is_shut columns v) es row ≡ true → IsTakenIn columns (λ column. taken v column) es row
taken_after columns v [] row some h =
    let s : IsShut v columns.start columns.end = shut_has v columns some (shut_from (is_open v columns) h) in
    record { column = s.track; low = s.low; high = s.high; is = s.is }
taken_after columns v (e ∷ es) row some h = by (int_le e.0 row) refl h (taken_after columns e.1 es row some) (taken_after columns v es row some)
  where
    by : (b : Bool) → int_le e.0 row ≡ b → (if b then reads (is_shut columns) (is_shut columns e.1) es row else reads (is_shut columns) (is_shut columns v) es row) ≡ true → (reads (is_shut columns) (is_shut columns e.1) es row ≡ true → IsTakenIn columns (λ column. taken e.1 column) es row)
        → (reads (is_shut columns) (is_shut columns v) es row ≡ true → IsTakenIn columns (λ column. taken v column) es row) → IsTakenIn columns (λ column. taken v column) (e ∷ es) row
    by true f g here other =
        let s : IsTakenIn columns (λ column. taken e.1 column) es row = here g in
        record { column = s.column; low = s.low; high = s.high; is = if_true (int_le e.0 row) (reads (λ (cs : TakenColumns). taken cs s.column) (taken e.1 s.column) es row) (reads (λ (cs : TakenColumns). taken cs s.column) (taken v s.column) es row) f ∙ s.is }
    by false f g here other =
        let s : IsTakenIn columns (λ column. taken v column) es row = other g in
        record { column = s.column; low = s.low; high = s.high; is = if_false (int_le e.0 row) (reads (λ (cs : TakenColumns). taken cs s.column) (taken e.1 s.column) es row) (reads (λ (cs : TakenColumns). taken cs s.column) (taken v s.column) es row) f ∙ s.is }

pub shut_is_taken : (columns : Span) (es : List (ℤ × TakenColumns)) (row : ℤ) → columns.start <ℤ columns.end → reads (is_shut columns) false es row ≡ true → IsTakenIn columns (λ column. false) es row
shut_is_taken columns [] row some h = absurd (true≢false (sym h))
shut_is_taken columns (e ∷ es) row some h = by (int_le e.0 row) refl h (shut_is_taken columns es row some)
  where
    by : (b : Bool) → int_le e.0 row ≡ b → (if b then reads (is_shut columns) (is_shut columns e.1) es row else reads (is_shut columns) false es row) ≡ true → (reads (is_shut columns) false es row ≡ true → IsTakenIn columns (λ column. false) es row) → IsTakenIn columns (λ column. false) (e ∷ es) row
    by true f g other =
        let s : IsTakenIn columns (λ column. taken e.1 column) es row = taken_after columns e.1 es row some g in
        record { column = s.column; low = s.low; high = s.high; is = if_true (int_le e.0 row) (reads (λ (cs : TakenColumns). taken cs s.column) (taken e.1 s.column) es row) (reads (λ (cs : TakenColumns). taken cs s.column) false es row) f ∙ s.is }
    by false f g other =
        let s : IsTakenIn columns (λ column. false) es row = other g in
        record { column = s.column; low = s.low; high = s.high; is = if_false (int_le e.0 row) (reads (λ (cs : TakenColumns). taken cs s.column) (taken e.1 s.column) es row) (reads (λ (cs : TakenColumns). taken cs s.column) false es row) f ∙ s.is }

free_after : (columns : Span) (v : TakenColumns) (es : List (ℤ × TakenColumns)) (row column : ℤ) → columns.start ≤ℤ column → column <ℤ columns.end → reads (is_shut columns) (is_shut columns v) es row ≡ false → reads (λ (cs : TakenColumns). taken cs column) (taken v column) es row ≡ false
free_after columns v [] row column low high h = open_is_free v columns column (open_from (is_open v columns) h) low high
free_after columns v (e ∷ es) row column low high h = by (int_le e.0 row) h (free_after columns e.1 es row column low high) (free_after columns v es row column low high)
  where
    by : (b : Bool) → (if b then reads (is_shut columns) (is_shut columns e.1) es row else reads (is_shut columns) (is_shut columns v) es row) ≡ false → (reads (is_shut columns) (is_shut columns e.1) es row ≡ false → reads (λ (cs : TakenColumns). taken cs column) (taken e.1 column) es row ≡ false)
        → (reads (is_shut columns) (is_shut columns v) es row ≡ false → reads (λ (cs : TakenColumns). taken cs column) (taken v column) es row ≡ false) →
        (if b then reads (λ (cs : TakenColumns). taken cs column) (taken e.1 column) es row else reads (λ (cs : TakenColumns). taken cs column) (taken v column) es row) ≡ false
    by true g here other = here g
    by false g here other = other g

pub clear_is_free : (columns : Span) (es : List (ℤ × TakenColumns)) (row column : ℤ) → columns.start ≤ℤ column → column <ℤ columns.end → reads (is_shut columns) false es row ≡ false → reads (λ (cs : TakenColumns). taken cs column) false es row ≡ false
clear_is_free columns [] row column low high h = refl
clear_is_free columns (e ∷ es) row column low high h = by (int_le e.0 row) h (clear_is_free columns es row column low high)
  where
    by : (b : Bool) → (if b then reads (is_shut columns) (is_shut columns e.1) es row else reads (is_shut columns) false es row) ≡ false → (reads (is_shut columns) false es row ≡ false → reads (λ (cs : TakenColumns). taken cs column) false es row ≡ false) →
        (if b then reads (λ (cs : TakenColumns). taken cs column) (taken e.1 column) es row else reads (λ (cs : TakenColumns). taken cs column) false es row) ≡ false
    by true g other = free_after columns e.1 es row column low high g
    by false g other = other g

-- ---- the bands behind a row

-- a test that holds of each place behind a row keeps all that lie there
filter_all : {A : Type 0} (p : ℤ × A → Bool) (s q : ℤ) (es : List (ℤ × A)) → AllByRecursion (λ y. int_cmp q y ≡ Less) (keys_of es) → s ≤ℤ q → ((e : ℤ × A) → p e ≡ not (int_le e.0 s)) → filter p es ≡ es
filter_all p s q [] h low same = refl
filter_all {A} p s q (e ∷ es) h low same =
    let past : q <ℤ e.0 = less_from q e.0 h.0 in
    let yes : p e ≡ true = same e ∙ ap not (to_gt e.0 s (omega (arith, ints, past, low))) in
    if_true (p e) (e ∷ filter p es) (filter p es) yes ∙ ap (λ xs. e ∷ xs) (filter_all p s q es h.1 low same)

-- the places behind a row, in order
pub filter_sorted : {A : Type 0} (p : ℤ × A → Bool) (s : ℤ) (es : List (ℤ × A)) → IsStrictlySortedBy int_cmp (keys_of es) → ((e : ℤ × A) → p e ≡ not (int_le e.0 s)) → IsStrictlySortedBy int_cmp (keys_of (filter p es))
filter_sorted p s [] sorted same = sorted
filter_sorted {A} p s (e ∷ es) sorted same = by (int_le e.0 s) refl (filter_sorted p s es (sorted_tail int_cmp e.0 (keys_of es) sorted) same)
  where
    by : (b : Bool) → int_le e.0 s ≡ b → IsStrictlySortedBy int_cmp (keys_of (filter p es)) → IsStrictlySortedBy int_cmp (keys_of (filter p (e ∷ es)))
    by true f rest = subst (λ (xs : List (ℤ × A)). IsStrictlySortedBy int_cmp (keys_of xs)) (sym (if_false (p e) (e ∷ filter p es) (filter p es) (same e ∙ ap not f))) rest
    by false f rest =
        let all : filter p es ≡ es = filter_all p s e.0 es (sorted_head int_cmp e.0 (keys_of es) sorted) (let far : s <ℤ e.0 = from_gt e.0 s f in omega (arith, ints, far)) same in
        subst (λ (xs : List (ℤ × A)). IsStrictlySortedBy int_cmp (keys_of xs)) (sym (if_true (p e) (e ∷ filter p es) (filter p es) (same e ∙ ap not f) ∙ ap (λ xs. e ∷ xs) all)) sorted

-- what is said at a later row follows from what is said at this one
pub reads_from : {A : Type 0} (says : A → Bool) (b : Bool) (p : ℤ × A → Bool) (s place : ℤ) (es : List (ℤ × A)) → IsStrictlySortedBy int_cmp (keys_of es) → ((e : ℤ × A) → p e ≡ not (int_le e.0 s)) → s ≤ℤ place
    → reads says b es place ≡ reads says (reads says b es s) (filter p es) place
reads_from says b p s place [] sorted same low = refl
reads_from {A} says b p s place (e ∷ es) sorted same low = by (int_le e.0 s) refl (reads_from says (says e.1) p s place es (sorted_tail int_cmp e.0 (keys_of es) sorted) same low)
  where
    behind : AllByRecursion (λ y. int_cmp e.0 y ≡ Less) (keys_of es)
    behind = sorted_head int_cmp e.0 (keys_of es) sorted

    by : (c : Bool) → int_le e.0 s ≡ c → reads says (says e.1) es place ≡ reads says (reads says (says e.1) es s) (filter p es) place → reads says b (e ∷ es) place ≡ reads says (reads says b (e ∷ es) s) (filter p (e ∷ es)) place
    by true f again =
        let near : e.0 ≤ℤ s = from_le e.0 s f in
        if_true (int_le e.0 place) (reads says (says e.1) es place) (reads says b es place) (to_le e.0 place (omega (arith, ints, near, low)))
        ∙ again
        ∙ ap (λ t. reads says t (filter p es) place) (sym (if_true (int_le e.0 s) (reads says (says e.1) es s) (reads says b es s) f))
        ∙ ap (λ xs. reads says (reads says b (e ∷ es) s) xs place) (sym (if_false (p e) (e ∷ filter p es) (filter p es) (same e ∙ ap not f)))
    by false f again =
        let far : s <ℤ e.0 = from_gt e.0 s f in
        let all : filter p (e ∷ es) ≡ e ∷ es = if_true (p e) (e ∷ filter p es) (filter p es) (same e ∙ ap not f) ∙ ap (λ xs. e ∷ xs) (filter_all p s e.0 es behind (omega (arith, ints, far)) same) in
        let here : reads says b (e ∷ es) s ≡ b = if_false (int_le e.0 s) (reads says (says e.1) es s) (reads says b es s) f ∙ none_yet says b e.0 es s behind (omega (arith, ints, far)) in
        ap (λ t. reads says t (e ∷ es) place) (sym here) ∙ ap (λ xs. reads says (reads says b (e ∷ es) s) xs place) (sym all)

-- ---- rows that are looked for in the bands

pub rows_are_passed : (bands : RowBands) (columns : Span) (start found : ℤ) (k : ℕ) (p : ℤ × TakenColumns → Bool) (xs : List (ℤ × TakenColumns)) → IsStrictlySortedBy int_cmp (keys_of bands.bands.entries) → ((e : ℤ × TakenColumns) → p e ≡ not (int_le e.0 start)) → columns.start <ℤ columns.end → 0 < k
    → xs ≡ filter p bands.bands.entries → found ≡ bands_passed columns (reads (is_shut columns) false bands.bands.entries start) xs start k → IsPassed (held bands) (moved true columns k) start found
rows_are_passed bands columns start found k p xs sorted same wide some e f =
    let P : List (ℤ × TakenColumns) → Type 0 = λ ys. IsStrictlySortedBy int_cmp (keys_of ys) in
    let order : IsStrictlySortedBy int_cmp (keys_of xs) = subst P (sym e) (filter_sorted p start bands.bands.entries sorted same) in
    let low : start ≤ℤ bands_passed columns (reads (is_shut columns) false bands.bands.entries start) xs start k = bands_later columns (reads (is_shut columns) false bands.bands.entries start) xs start k in
    record {
      taken = record {
        later = omega (arith, ints, low, f);
        each = λ z from to.
            let s : IsShutRow columns (reads (is_shut columns) false bands.bands.entries start) xs z k = bands_shut columns (reads (is_shut columns) false bands.bands.entries start) xs start z k order some from (omega (arith, ints, to, f)) in
            let t : IsTakenIn columns (λ column. false) bands.bands.entries s.row = shut_is_taken columns bands.bands.entries s.row wide (read s.row (omega (arith, ints, from, s.low)) ∙ s.is) in
            record { row = s.row; column = t.column; inside = and_from (within (reach z k) s.row) (within columns t.column) (to_within (reach z k) s.row s.low s.high) (to_within columns t.column t.low t.high); is = t.is };
      };
      free = λ g less. record {
        each = λ row column h.
            let parts : (within (reach start k) row ≡ true) × (within columns column ≡ true) = and_parts (within (reach start k) row) (within columns column) h in
            let r : (start ≤ℤ row) × (row <ℤ (start +ℤ pos k)) = within_from (reach start k) row parts.0 in
            let c : (columns.start ≤ℤ column) × (column <ℤ columns.end) = within_from columns column parts.1 in
            clear_is_free columns bands.bands.entries row column c.0 c.1 (read row r.0 ∙ bands_clear columns (reads (is_shut columns) false bands.bands.entries start) xs start row k order less (sym f ∙ g) r.0 r.1);
      };
    }
  where
    read : (row : ℤ) → start ≤ℤ row → reads (is_shut columns) false bands.bands.entries row ≡ reads (is_shut columns) (reads (is_shut columns) false bands.bands.entries start) xs row
    read row h = reads_from (is_shut columns) false p start row bands.bands.entries sorted same h ∙ ap (λ ys. reads (is_shut columns) (reads (is_shut columns) false bands.bands.entries start) ys row) (sym e)

-- ---- one band of those that are left

pub bands_stop : (columns : Span) (shut : Bool) (left rest : List (ℤ × TakenColumns)) (e : ℤ) (v : TakenColumns) (line : ℤ) (k : ℕ) → shut ≡ false → left ≡ (e, v) ∷ rest → (line +ℤ pos k) ≤ℤ e → bands_passed columns shut left line k ≡ line
bands_stop columns true left rest e v line k f g far = absurd (true≢false f)
bands_stop columns false left rest e v line k f g far =
    ap (λ xs. bands_passed columns false xs line k) g ∙ if_false (int_lt e (line +ℤ pos k)) (bands_passed columns (is_shut columns v) rest line k) line (to_ge e (line +ℤ pos k) far)

pub bands_in : (columns : Span) (shut now : Bool) (left rest : List (ℤ × TakenColumns)) (e : ℤ) (v : TakenColumns) (line next : ℤ) (k : ℕ) → shut ≡ true → left ≡ (e, v) ∷ rest → now ≡ is_shut columns v → next ≡ int_max line e
    → bands_passed columns now rest next k ≡ bands_passed columns shut left line k
bands_in columns false now left rest e v line next k f g h m = absurd (true≢false (sym f))
bands_in columns true now left rest e v line next k f g h m =
    ap (λ b. bands_passed columns b rest next k) h ∙ ap (λ z. bands_passed columns (is_shut columns v) rest z k) m ∙ sym (ap (λ xs. bands_passed columns true xs line k) g)

pub bands_out : (columns : Span) (shut now : Bool) (left rest : List (ℤ × TakenColumns)) (e : ℤ) (v : TakenColumns) (line next : ℤ) (k : ℕ) → shut ≡ false → left ≡ (e, v) ∷ rest → now ≡ is_shut columns v → e <ℤ (line +ℤ pos k) → next ≡ line
    → bands_passed columns now rest next k ≡ bands_passed columns shut left line k
bands_out columns true now left rest e v line next k f g h near m = absurd (true≢false f)
bands_out columns false now left rest e v line next k f g h near m =
    ap (λ b. bands_passed columns b rest next k) h
    ∙ ap (λ z. bands_passed columns (is_shut columns v) rest z k) m
    ∙ sym (ap (λ xs. bands_passed columns false xs line k) g ∙ if_true (int_lt e (line +ℤ pos k)) (bands_passed columns (is_shut columns v) rest line k) line (to_lt e (line +ℤ pos k) near))

pub bands_end : (columns : Span) (shut : Bool) (left : List (ℤ × TakenColumns)) (line : ℤ) (k : ℕ) → shut ≡ false → left ≡ [] → bands_passed columns shut left line k ≡ line
bands_end columns true left line k f g = absurd (true≢false f)
bands_end columns false left line k f g = ap (λ xs. bands_passed columns false xs line k) g

pub bands_never : (columns : Span) (shut : Bool) (left : List (ℤ × TakenColumns)) (line : ℤ) (k : ℕ) → shut ≡ true → left ≡ [] → line ≤ℤ last_line → bands_passed columns shut left line k ≡ last_line
bands_never columns false left line k f g low = absurd (true≢false (sym f))
bands_never columns true left line k f g low = ap (λ xs. bands_passed columns true xs line k) g ∙ max_other line last_line low

-- ---- the test of the bands behind a row

not_twice : (b : Bool) → b ≡ not (not b)
not_twice true = refl
not_twice false = refl

and_true : (b : Bool) → (b && true) ≡ b
and_true true = refl
and_true false = refl

lies_behind : (row q : ℤ) → (is_lt (int_cmp row q) && true) ≡ not (int_le q row)
lies_behind row q = and_true (is_lt (int_cmp row q)) ∙ not_twice (is_lt (int_cmp row q)) ∙ ap not (not_after row q)

pub rows_found : (bands : RowBands) (columns : Span) (start at found : ℤ) (k : ℕ) (shut : Bool) (items left : List (ℤ × TakenColumns)) → IsStrictlySortedBy int_cmp (keys_of bands.bands.entries) → columns.start <ℤ columns.end → 0 < k → at ≡ start
    → items ≡ filter (λ (e : ℤ × TakenColumns). is_lt (int_cmp at e.0) && true) bands.bands.entries → left ≡ items → shut ≡ reads (is_shut columns) false bands.bands.entries at → found ≡ bands_passed columns shut left at k
    → IsPassed (held bands) (moved true columns k) start found
rows_found bands columns start at found k shut items left sorted wide some e f g h m =
    subst (λ z. IsPassed (held bands) (moved true columns k) z found) e
    (rows_are_passed bands columns at found k (λ (c : ℤ × TakenColumns). is_lt (int_cmp at c.0) && true) left sorted (λ c. lies_behind at c.0) wide some (g ∙ f) (m ∙ ap (λ b. bands_passed columns b left at k) h))

-- ---- the next band

-- up to the first band behind a row the same is taken as there
pub kept_to_next : (bands : RowBands) (row next : ℤ) (p : ℤ × TakenColumns → Bool) (v : TakenColumns) (rest : List (ℤ × TakenColumns)) → IsStrictlySortedBy int_cmp (keys_of bands.bands.entries) → ((e : ℤ × TakenColumns) → p e ≡ not (int_le e.0 row))
    → filter p bands.bands.entries ≡ (next, v) ∷ rest → (place column : ℤ) → row ≤ℤ place → place <ℤ next → held bands place column ≡ held bands row column
kept_to_next bands row next p v rest sorted same e place column low high =
    let says : TakenColumns → Bool = λ cs. taken cs column in
    let P : List (ℤ × TakenColumns) → Type 0 = λ ys. IsStrictlySortedBy int_cmp (keys_of ys) in
    let order : IsStrictlySortedBy int_cmp (keys_of ((next, v) ∷ rest)) = subst P e (filter_sorted p row bands.bands.entries sorted same) in
    reads_from says false p row place bands.bands.entries sorted same low
    ∙ ap (λ ys. reads says (held bands row column) ys place) e
    ∙ if_false (int_le next place) (reads says (says v) rest place) (reads says (held bands row column) rest place) (to_gt next place high)
    ∙ none_yet says (held bands row column) next rest place (sorted_head int_cmp next (keys_of rest) order) (omega (arith, ints, high))

pub kept_to_end : (bands : RowBands) (row : ℤ) (p : ℤ × TakenColumns → Bool) → IsStrictlySortedBy int_cmp (keys_of bands.bands.entries) → ((e : ℤ × TakenColumns) → p e ≡ not (int_le e.0 row))
    → filter p bands.bands.entries ≡ [] → (place column : ℤ) → row ≤ℤ place → held bands place column ≡ held bands row column
kept_to_end bands row p sorted same e place column low =
    let says : TakenColumns → Bool = λ cs. taken cs column in
    reads_from says false p row place bands.bands.entries sorted same low
    ∙ ap (λ ys. reads says (held bands row column) ys place) e

-- what is as in one row is kept up to the next
pub is_kept : (bands : RowBands) (row next : ℤ) → row <ℤ next → ((place column : ℤ) → row ≤ℤ place → place <ℤ next → held bands place column ≡ held bands row column) → IsKept (held bands) row next
is_kept bands row next less h = record {
  later = less;
  each = λ between column low high e. h between column (omega (arith, ints, low)) high ∙ sym (h (between -ℤ pos 1) column (omega (arith, ints, low)) (omega (arith, ints, high))) ∙ e;
}

first_kept : {B : Type 0} (p : B → Bool) (es : List B) (x : B) (rest : List B) → filter p es ≡ x ∷ rest → p x ≡ true
first_kept p [] x rest h = absurd (no_item x rest (sym h))
first_kept {B} p (e ∷ es) x rest h = by (p e) refl h (λ g. first_kept p es x rest g)
  where
    by : (b : Bool) → p e ≡ b → (if b then e ∷ filter p es else filter p es) ≡ x ∷ rest → (filter p es ≡ x ∷ rest → p x ≡ true) → p x ≡ true
    by true f g again = subst (λ c. p c ≡ true) (ap (λ ys. get_or ys 0 e) g) f
    by false f g again = again g

pub kept_up_to : (bands : RowBands) (row at next found : ℤ) (v : TakenColumns) (rest : List (ℤ × TakenColumns)) → IsStrictlySortedBy int_cmp (keys_of bands.bands.entries) → at ≡ row → found ≡ next
    → filter (λ (e : ℤ × TakenColumns). is_lt (int_cmp at e.0) && true) bands.bands.entries ≡ (next, v) ∷ rest → IsKept (held bands) row found
kept_up_to bands row at next found v rest sorted e f h =
    let p : ℤ × TakenColumns → Bool = λ c. is_lt (int_cmp at c.0) && true in
    let far : at <ℤ next = from_gt next at (shut_from (int_le next at) (sym (lies_behind at next) ∙ first_kept p bands.bands.entries (next, v) rest h)) in
    let kept : IsKept (held bands) at next = is_kept bands at next far (kept_to_next bands at next p v rest sorted (λ c. lies_behind at c.0) h) in
    subst (λ z. IsKept (held bands) row z) (sym f) (subst (λ z. IsKept (held bands) z next) e kept)

pub kept_for_good : (bands : RowBands) (row at last : ℤ) → IsStrictlySortedBy int_cmp (keys_of bands.bands.entries) → at ≡ row → row <ℤ last → filter (λ (e : ℤ × TakenColumns). is_lt (int_cmp at e.0) && true) bands.bands.entries ≡ [] → IsKept (held bands) row last
kept_for_good bands row at last sorted e less h =
    let p : ℤ × TakenColumns → Bool = λ c. is_lt (int_cmp at c.0) && true in
    let kept : IsKept (held bands) at last = is_kept bands at last (omega (arith, ints, e, less)) (λ place column low high. kept_to_end bands at p sorted (λ c. lies_behind at c.0) h place column low) in
    subst (λ z. IsKept (held bands) z last) e kept

-- ---- columns that are looked for in the bands

-- Bands in which so many columns from each line before one are not open in all; and, where it is where the search began, they are where they
-- are in those that are left.
pub record IsOver (xs : List (ℤ × TakenColumns)) (k : ℕ) (from to : ℤ) (left : List (ℤ × TakenColumns)) : Type 0 where
  pub front : List (ℤ × TakenColumns)
  pub all : front ++ left ≡ xs
  pub later : from ≤ℤ to
  pub shut : (z : ℤ) → from ≤ℤ z → z <ℤ to → list_all (λ (e : ℤ × TakenColumns). is_open e.1 (reach z k)) xs ≡ false
  pub clear : to ≡ from → from <ℤ last_line → list_all (λ (e : ℤ × TakenColumns). is_open e.1 (reach from k)) left ≡ true → list_all (λ (e : ℤ × TakenColumns). is_open e.1 (reach from k)) xs ≡ true

one_fails : {A : Type 0} (p : A → Bool) (front : List A) (x : A) (rest : List A) → p x ≡ false → list_all p (front ++ x ∷ rest) ≡ false
one_fails p [] x rest h = ap (λ b. b && list_all p rest) h
one_fails p (y ∷ front) x rest h = no (p y) (list_all p (front ++ x ∷ rest)) (one_fails p front x rest h)
  where
    no : (u v : Bool) → v ≡ false → (u && v) ≡ false
    no true v e = e
    no false v e = refl

pub over_goes_on : (xs left rest : List (ℤ × TakenColumns)) (x : ℤ × TakenColumns) (k : ℕ) (from to next : ℤ) → IsOver xs k from to left → left ≡ x ∷ rest → IsPassedOver x.1 k to next → IsOver xs k from next rest
over_goes_on xs left rest x k from to next o e h =
    let l : from ≤ℤ to = o.later in
    let m : to ≤ℤ next = h.later in
    record {
      front = o.front ++ x ∷ [];
      all = append_assoc o.front (x ∷ []) rest ∙ ap (λ ys. o.front ++ ys) (sym e) ∙ o.all;
      later = omega (arith, ints, l, m);
      shut = λ z low high. by z (int_lt z to) refl low high;
      clear = λ f less g.
          let same : to ≡ from = omega (arith, ints, l, m, f) in
          let here : is_open x.1 (reach from k) ≡ true = ap (λ y. is_open x.1 (reach y k)) (sym same) ∙ h.clear (f ∙ sym same) (omega (arith, ints, less, same)) in
          o.clear same less (ap (λ ys. list_all (λ (e : ℤ × TakenColumns). is_open e.1 (reach from k)) ys) e ∙ and_from (is_open x.1 (reach from k)) (list_all (λ (e : ℤ × TakenColumns). is_open e.1 (reach from k)) rest) here g);
    }
  where
    by : (z : ℤ) (b : Bool) → int_lt z to ≡ b → from ≤ℤ z → z <ℤ next → list_all (λ (e : ℤ × TakenColumns). is_open e.1 (reach z k)) xs ≡ false
    by z true f low high = o.shut z low (from_lt z to f)
    by z false f low high =
        ap (λ ys. list_all (λ (e : ℤ × TakenColumns). is_open e.1 (reach z k)) ys) (sym (ap (λ ys. o.front ++ ys) (sym e) ∙ o.all))
        ∙ one_fails (λ (e : ℤ × TakenColumns). is_open e.1 (reach z k)) o.front x rest (h.shut z (from_ge z to f) high)

-- the next band, where the lines are known by other terms
pub over_next : (xs left rest : List (ℤ × TakenColumns)) (x : ℤ × TakenColumns) (k : ℕ) (from to at next found : ℤ) → IsOver xs k from to left → left ≡ x ∷ rest → at ≡ to → found ≡ next → IsPassedOver x.1 k at next → IsOver xs k from found rest
over_next xs left rest x k from to at next found o e f g h =
    over_goes_on xs left rest x k from to found o e (subst (λ z. IsPassedOver x.1 k z found) f (subst (λ z. IsPassedOver x.1 k at z) (sym g) h))

-- the columns in the first row, and then in the bands that begin before the last
pub columns_are_passed : (bands : RowBands) (rows : Span) (start first found : ℤ) (k : ℕ) (xs : List (ℤ × TakenColumns)) → IsStrictlySortedBy int_cmp (keys_of bands.bands.entries) → rows.start <ℤ rows.end → 0 < k
    → (let here : Span = record { start = rows.start; end = rows.start +ℤ pos 1 } in IsPassed (held bands) (moved false here k) start first) → xs ≡ filter (λ (e : ℤ × TakenColumns). strictly rows.start rows.end e.0) bands.bands.entries → IsOver xs k first found []
    → IsPassed (held bands) (moved false rows k) start found
columns_are_passed bands rows start first found k xs sorted tall some h e o =
    let l : start ≤ℤ first = h.taken.later in
    let m : first ≤ℤ found = o.later in
    record {
      taken = record { later = omega (arith, ints, l, m); each = λ z low high. by z (int_lt z first) refl low high };
      free = λ f less.
          let one : first ≡ start = omega (arith, ints, l, m, f) in
          let two : found ≡ first = omega (arith, ints, l, m, f) in
          let none : HasNone (held bands) (moved false here k start) = h.free one less in
          let open_all : list_all (λ (e : ℤ × TakenColumns). is_open e.1 (reach start k)) (filter (λ (e : ℤ × TakenColumns). strictly rows.start rows.end e.0) bands.bands.entries) ≡ true =
          subst (λ y. list_all (λ (e : ℤ × TakenColumns). is_open e.1 (reach y k)) (filter (λ (e : ℤ × TakenColumns). strictly rows.start rows.end e.0) bands.bands.entries) ≡ true) one
          (ap (λ ys. list_all (λ (e : ℤ × TakenColumns). is_open e.1 (reach first k)) ys) (sym e) ∙ o.clear two (omega (arith, ints, less, one)) refl) in
          record {
            each = λ row column inside.
                let parts : (within rows row ≡ true) × (within (reach start k) column ≡ true) = and_parts (within rows row) (within (reach start k) column) inside in
                let r : (rows.start ≤ℤ row) × (row <ℤ rows.end) = within_from rows row parts.0 in
                let c : (start ≤ℤ column) × (column <ℤ (start +ℤ pos k)) = within_from (reach start k) column parts.1 in
                let at : held bands rows.start column ≡ false = none.each rows.start column (and_from (within here rows.start) (within (reach start k) column) (to_within here rows.start (omega (arith, ints)) (omega (arith, ints))) parts.1) in
                reads_free (λ (cs : TakenColumns). taken cs column) (λ (cs : TakenColumns). is_open cs (reach start k)) (λ a g. open_is_free a (reach start k) column g c.0 c.1) rows.start rows.end row r.0 r.1 false false bands.bands.entries at (inl refl) open_all;
          };
    }
  where
    here : Span
    here = record { start = rows.start; end = rows.start +ℤ pos 1 }

    by : (z : ℤ) (b : Bool) → int_lt z first ≡ b → start ≤ℤ z → z <ℤ found → HasIn (held bands) (moved false rows k z)
    by z true f low high =
        let cell : HasIn (held bands) (moved false here k z) = h.taken.each z low (from_lt z first f) in
        let parts : (within here cell.row ≡ true) × (within (reach z k) cell.column ≡ true) = and_parts (within here cell.row) (within (reach z k) cell.column) cell.inside in
        let r : (rows.start ≤ℤ cell.row) × (cell.row <ℤ (rows.start +ℤ pos 1)) = within_from here cell.row parts.0 in
        record { row = cell.row; column = cell.column; inside = and_from (within rows cell.row) (within (reach z k) cell.column) (to_within rows cell.row r.0 (omega (arith, ints, r.0, r.1, tall))) parts.1; is = cell.is }
    by z false f low high =
        let change : IsChange (λ (cs : TakenColumns). is_open cs (reach z k)) rows.start rows.end bands.bands.entries = shut_change (λ (cs : TakenColumns). is_open cs (reach z k)) rows.start rows.end bands.bands.entries sorted
        (ap (λ ys. list_all (λ (e : ℤ × TakenColumns). is_open e.1 (reach z k)) ys) (sym e) ∙ o.shut z (from_ge z first f) high) in
        let s : IsShut change.value z (z +ℤ pos k) = shut_has change.value (reach z k) (omega (arith, ints, some)) change.shut in
        record {
          row = change.place;
          column = s.track;
          inside = and_from (within rows change.place) (within (reach z k) s.track) (to_within rows change.place (let g : rows.start <ℤ change.place = change.first in omega (arith, ints, g)) change.last)
              (to_within (reach z k) s.track s.low s.high);
          is = change.read (λ (cs : TakenColumns). taken cs s.track) false ∙ s.is;
        }

pub columns_found : (bands : RowBands) (rows : Span) (row last start at first one found : ℤ) (k : ℕ) (items xs left : List (ℤ × TakenColumns)) → IsStrictlySortedBy int_cmp (keys_of bands.bands.entries) → rows.start <ℤ rows.end → 0 < k → row ≡ rows.start → last ≡ rows.end → at ≡ start
    → one ≡ first → (let here : Span = record { start = row; end = row +ℤ pos 1 } in IsPassed (held bands) (moved false here k) at first) → items ≡ filter (λ (e : ℤ × TakenColumns). strictly row last e.0) bands.bands.entries → xs ≡ items → left ≡ [] → IsOver xs k one found left
    → IsPassed (held bands) (moved false rows k) start found
columns_found bands rows row last start at first one found k items xs left sorted tall some c d e f h i j l o =
    let P : ℤ → Type 0 = λ z. (let here : Span = record { start = z; end = z +ℤ pos 1 } in IsPassed (held bands) (moved false here k) at first) in
    let Q : ℤ → Type 0 = λ z. (let here : Span = record { start = rows.start; end = rows.start +ℤ pos 1 } in IsPassed (held bands) (moved false here k) z first) in
    let between : items ≡ filter (λ (x : ℤ × TakenColumns). strictly rows.start rows.end x.0) bands.bands.entries = i
    ∙ ap (λ z. filter (λ (x : ℤ × TakenColumns). strictly z last x.0) bands.bands.entries) c
    ∙ ap (λ z. filter (λ (x : ℤ × TakenColumns). strictly rows.start z x.0) bands.bands.entries) d in
    columns_are_passed bands rows start first found k xs sorted tall some (subst Q e (subst P c h)) (j ∙ between) (subst (λ z. IsOver xs k z found []) f (subst (λ ys. IsOver xs k one found ys) l o))

-- the columns in one row
pub pass_in_row : (bands : RowBands) (row start found : ℤ) (k : ℕ) (v : TakenColumns) → 0 < k → ((column : ℤ) → held bands row column ≡ taken v column) → IsPassedOver v k start found
    → (let here : Span = record { start = row; end = row +ℤ pos 1 } in IsPassed (held bands) (moved false here k) start found)
pass_in_row bands row start found k v some at h = record {
  taken = record {
    later = h.later;
    each = λ z low high.
        let s : IsShut v z (z +ℤ pos k) = shut_has v (reach z k) (omega (arith, ints, some)) (h.shut z low high) in
        record { row = row; column = s.track; inside = and_from (within here row) (within (reach z k) s.track) (to_within here row (omega (arith, ints)) (omega (arith, ints))) (to_within (reach z k) s.track s.low s.high); is = at s.track ∙ s.is };
  };
  free = λ f less. record {
    each = λ y column inside.
        let parts : (within here y ≡ true) × (within (reach start k) column ≡ true) = and_parts (within here y) (within (reach start k) column) inside in
        let r : (row ≤ℤ y) × (y <ℤ (row +ℤ pos 1)) = within_from here y parts.0 in
        let c : (start ≤ℤ column) × (column <ℤ (start +ℤ pos k)) = within_from (reach start k) column parts.1 in
        let same : y ≡ row = omega (arith, ints, r.0, r.1) in
        ap (λ z. held bands z column) same ∙ at column ∙ open_is_free v (reach start k) column (h.clear f less) c.0 c.1;
  };
}
  where
    here : Span
    here = record { start = row; end = row +ℤ pos 1 }

pub passed_at : (bands : RowBands) (row there start at found out : ℤ) (k : ℕ) (v : TakenColumns) → 0 < k → there ≡ row → at ≡ start → out ≡ found → ((column : ℤ) → held bands there column ≡ taken v column) → IsPassedOver v k at found
    → (let here : Span = record { start = row; end = row +ℤ pos 1 } in IsPassed (held bands) (moved false here k) start out)
passed_at bands row there start at found out k v some e f g value h =
    pass_in_row bands row start out k v some (λ column. ap (λ z. held bands z column) (sym e) ∙ value column) (subst (λ z. IsPassedOver v k z out) f (subst (λ z. IsPassedOver v k at z) (sym g) h))
