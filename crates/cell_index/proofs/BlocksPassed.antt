-- A search that goes on past a run, a block and bands of rows.
use Rattle.std.proofs.Common.{arith, rules, refl, sym, ap, subst, ◌∙◌, ◌≡◌, ℕ, ◌<◌, ℤ, pos, ◌+ℤ◌, ◌-ℤ◌, ◌≤ℤ◌, ◌<ℤ◌, Bool, true, false, ◌||◌, int_lt}
use Rattle.std.specs.Int.{int_max, int_min}
use Rattle.std.proofs.lemmas.Int.{ints, clamps}
use Rattle.std.proofs.lemmas.Bool.{and_from, and_parts}
use Rattle.lunit.specs.Areas.{areas_overlap, spans_overlap}
use Rattle.lunit.specs.declared.geometry.Area.{Area}
use Rattle.lunit.specs.declared.geometry.Span.{Span}
use Rattle.cell_index.specs.declared.blocks.Blocks.{Blocks}
use Rattle.cell_index.specs.Held.{held_in, HasTaken}
use Rattle.cell_index.specs.Passed.{end_of, moved, AreTaken, HasIn, HasNone, IsKept, IsPassed, IsReached}
use Rattle.cell_index.specs.Taken.{held, holds, within}
use Rattle.cell_index.proofs.Pairs.{block_has, first_yes, last_yes, none_at_all, none_in, run_has}
use Rattle.cell_index.proofs.Passed.{from_ge, from_lt, to_lt}
use Rattle.cell_index.proofs.Spans.{to_within, within_from}

-- ---- an area that is met

lt_from : (a b : ℤ) → int_lt a b ≡ true → a <ℤ b
lt_from a b h = search rules

spans_meet : (from z : ℤ) (k : ℕ) (b : Span) → 0 < k → (let s : Span = record { start = from; end = from +ℤ pos k } in spans_overlap s b ≡ true) → from ≤ℤ z → z <ℤ b.end → (let s : Span = record { start = z; end = z +ℤ pos k } in spans_overlap s b ≡ true)
spans_meet from z k b some h low high =
    let less : int_max from b.start <ℤ int_min (from +ℤ pos k) b.end = lt_from (int_max from b.start) (int_min (from +ℤ pos k) b.end) h in
    to_lt (int_max z b.start) (int_min (z +ℤ pos k) b.end) (omega (arith, ints, clamps, less, low, high, some))

-- so many tracks that meet an area meet it from each line on up to its end
pub meets_on : (down : Bool) (across : Span) (k : ℕ) (from z : ℤ) (b : Area) → 0 < k → areas_overlap (moved down across k from) b ≡ true → from ≤ℤ z → z <ℤ end_of down b → areas_overlap (moved down across k z) b ≡ true
meets_on false across k from z b some h low high =
    let s : Span = record { start = from; end = from +ℤ pos k } in
    let t : Span = record { start = z; end = z +ℤ pos k } in
    let parts : (spans_overlap s b.columns ≡ true) × (spans_overlap across b.rows ≡ true) = and_parts (spans_overlap s b.columns) (spans_overlap across b.rows) h in
    and_from (spans_overlap t b.columns) (spans_overlap across b.rows) (spans_meet from z k b.columns some parts.0 low high) parts.1
meets_on true across k from z b some h low high =
    let s : Span = record { start = from; end = from +ℤ pos k } in
    let t : Span = record { start = z; end = z +ℤ pos k } in
    let parts : (spans_overlap across b.columns ≡ true) × (spans_overlap s b.rows ≡ true) = and_parts (spans_overlap across b.columns) (spans_overlap s b.rows) h in
    and_from (spans_overlap across b.columns) (spans_overlap t b.rows) parts.0 (spans_meet from z k b.rows some parts.1 low high)

span_before : (from : ℤ) (k : ℕ) (b : Span) → (let s : Span = record { start = from; end = from +ℤ pos k } in spans_overlap s b ≡ true) → from <ℤ b.end
span_before from k b h =
    let less : int_max from b.start <ℤ int_min (from +ℤ pos k) b.end = lt_from (int_max from b.start) (int_min (from +ℤ pos k) b.end) h in
    omega (arith, ints, clamps, less)

-- and begin before it ends
pub meets_before : (down : Bool) (across : Span) (k : ℕ) (from : ℤ) (b : Area) → areas_overlap (moved down across k from) b ≡ true → from <ℤ end_of down b
meets_before false across k from b h = let s : Span = record { start = from; end = from +ℤ pos k } in span_before from k b.columns (and_parts (spans_overlap s b.columns) (spans_overlap across b.rows) h).0
meets_before true across k from b h = let s : Span = record { start = from; end = from +ℤ pos k } in span_before from k b.rows (and_parts (spans_overlap across b.columns) (spans_overlap s b.rows) h).1

-- ---- one step of the search

has_in : (blocks : Blocks) (a : Area) → HasTaken blocks a → HasIn (held_in blocks) a
has_in blocks a h = record { row = h.row; column = h.column; inside = and_from (within a.rows h.row) (within a.columns h.column) (to_within a.rows h.row h.first_row h.last_row) (to_within a.columns h.column h.first_column h.last_column); is = h.is }

run_passed : (down : Bool) (across : Span) (k : ℕ) (from here found : ℤ) (blocks : Blocks) → 0 < k → here ≡ from → areas_overlap (moved down across k here) blocks.run ≡ true → found ≡ end_of down blocks.run → IsPassed (held_in blocks) (moved down across k) from found
run_passed down across k from here found blocks some same h0 e =
    let h : areas_overlap (moved down across k from) blocks.run ≡ true = ap (λ z. areas_overlap (moved down across k z) blocks.run) (sym same) ∙ h0 in
    let less : from <ℤ end_of down blocks.run = meets_before down across k from blocks.run h in
    record {
      taken = record {
        later = omega (arith, ints, less, e);
        each = λ z low high. has_in blocks (moved down across k z) (run_has blocks (moved down across k z) (meets_on down across k from z blocks.run some h low (omega (arith, ints, high, e))));
      };
      free = λ f g. absurd (omega (arith, ints, less, e, f));
    }

pub run_columns : (across : Span) (k : ℕ) (from here found : ℤ) (blocks : Blocks) → 0 < k → here ≡ from → areas_overlap (moved false across k here) blocks.run ≡ true → found ≡ blocks.run.columns.end → IsPassed (held_in blocks) (moved false across k) from found
run_columns across = run_passed false across

pub run_rows : (across : Span) (k : ℕ) (from here found : ℤ) (blocks : Blocks) → 0 < k → here ≡ from → areas_overlap (moved true across k here) blocks.run ≡ true → found ≡ blocks.run.rows.end → IsPassed (held_in blocks) (moved true across k) from found
run_rows across = run_passed true across

block_passed : (down : Bool) (across : Span) (k : ℕ) (from here found : ℤ) (blocks : Blocks) → 0 < k → here ≡ from → areas_overlap (moved down across k here) blocks.block ≡ true → found ≡ end_of down blocks.block → IsPassed (held_in blocks) (moved down across k) from found
block_passed down across k from here found blocks some same h0 e =
    let h : areas_overlap (moved down across k from) blocks.block ≡ true = ap (λ z. areas_overlap (moved down across k z) blocks.block) (sym same) ∙ h0 in
    let less : from <ℤ end_of down blocks.block = meets_before down across k from blocks.block h in
    record {
      taken = record {
        later = omega (arith, ints, less, e);
        each = λ z low high. has_in blocks (moved down across k z) (block_has blocks (moved down across k z) (meets_on down across k from z blocks.block some h low (omega (arith, ints, high, e))));
      };
      free = λ f g. absurd (omega (arith, ints, less, e, f));
    }

pub block_columns : (across : Span) (k : ℕ) (from here found : ℤ) (blocks : Blocks) → 0 < k → here ≡ from → areas_overlap (moved false across k here) blocks.block ≡ true → found ≡ blocks.block.columns.end → IsPassed (held_in blocks) (moved false across k) from found
block_columns across = block_passed false across

pub block_rows : (across : Span) (k : ℕ) (from here found : ℤ) (blocks : Blocks) → 0 < k → here ≡ from → areas_overlap (moved true across k here) blocks.block ≡ true → found ≡ blocks.block.rows.end → IsPassed (held_in blocks) (moved true across k) from found
block_rows across = block_passed true across

apart_there : (down : Bool) (across : Span) (k : ℕ) (from here : ℤ) (b : Area) → here ≡ from → areas_overlap (moved down across k here) b ≡ false → areas_overlap (moved down across k from) b ≡ false
apart_there down across k from here b same h = ap (λ z. areas_overlap (moved down across k z) b) (sym same) ∙ h

pub bands_passed_too : (down : Bool) (across : Span) (k : ℕ) (from one two three found next : ℤ) (blocks : Blocks) → one ≡ from → two ≡ from → three ≡ from → found ≡ next → areas_overlap (moved down across k one) blocks.run ≡ false → areas_overlap (moved down across k two) blocks.block ≡ false
    → IsPassed (held blocks.bands) (moved down across k) three next → IsPassed (held_in blocks) (moved down across k) from found
bands_passed_too down across k from one two three found next blocks e1 e2 e3 e4 run block h =
    let later : three ≤ℤ next = h.taken.later in
    record {
      taken = record {
        later = omega (arith, ints, later, e3, e4);
        each = λ z low high.
            let cell : HasIn (held blocks.bands) (moved down across k z) = h.taken.each z (omega (arith, ints, low, e3)) (omega (arith, ints, high, e4)) in
            record {
              row = cell.row;
              column = cell.column;
              inside = cell.inside;
              is = first_yes (held blocks.bands cell.row cell.column || holds blocks.block cell.row cell.column) (holds blocks.run cell.row cell.column) (first_yes (held blocks.bands cell.row cell.column) (holds blocks.block cell.row cell.column) cell.is);
            };
      };
      free = λ f g.
          let none : HasNone (held blocks.bands) (moved down across k three) = h.free (sym e4 ∙ f ∙ sym e3) (omega (arith, ints, g, e3)) in
          record { each = none_in blocks (moved down across k from) (apart_there down across k from one blocks.run e1 run) (apart_there down across k from two blocks.block e2 block) (subst (λ z. HasNone (held blocks.bands) (moved down across k z)) e3 none).each };
    }

pub no_bands_passed : (down : Bool) (across : Span) (k : ℕ) (from one two found : ℤ) (blocks : Blocks) → one ≡ from → two ≡ from → areas_overlap (moved down across k one) blocks.run ≡ false → areas_overlap (moved down across k two) blocks.block ≡ false →
    ((row column : ℤ) → held blocks.bands row column ≡ false) → found ≡ from
    → IsPassed (held_in blocks) (moved down across k) from found
no_bands_passed down across k from one two found blocks e1 e2 run block none e = record {
  taken = record { later = omega (arith, ints, e); each = λ z low high. absurd (omega (arith, ints, e, low, high)) };
  free = λ f g. record { each = none_at_all blocks (moved down across k from) (apart_there down across k from one blocks.run e1 run) (apart_there down across k from two blocks.block e2 block) none };
}

-- ---- all steps

pub taken_begins : (is_taken : ℤ → ℤ → Bool) (at : ℤ → Area) (from to : ℤ) → from ≡ to → AreTaken is_taken at from to
taken_begins is_taken at from to e = record { later = omega (arith, ints, e); each = λ z low high. absurd (omega (arith, ints, e, low, high)) }

pub taken_goes_on : (is_taken : ℤ → ℤ → Bool) (at : ℤ → Area) (from to here next now : ℤ) → here ≡ to → now ≡ next → AreTaken is_taken at from to → IsPassed is_taken at here next → AreTaken is_taken at from now
taken_goes_on is_taken at from to here next now e f t h =
    let l : from ≤ℤ to = t.later in
    let m : here ≤ℤ next = h.taken.later in
    record { later = omega (arith, ints, l, m, e, f); each = λ z low high. by z (int_lt z to) refl low (omega (arith, ints, high, f)) }
  where
    by : (z : ℤ) (b : Bool) → int_lt z to ≡ b → from ≤ℤ z → z <ℤ next → HasIn is_taken (at z)
    by z true g low high = t.each z low (from_lt z to g)
    by z false g low high = let k : to ≤ℤ z = from_ge z to g in h.taken.each z (omega (arith, ints, k, e)) high

pub reached_there : (is_taken : ℤ → ℤ → Bool) (at : ℤ → Area) (start from to here next out : ℤ) → from ≡ start → here ≡ to → out ≡ to → AreTaken is_taken at from to → IsPassed is_taken at here next → next ≤ℤ to → IsReached is_taken at start out
reached_there is_taken at start from to here next out d e f t h stays =
    let m : here ≤ℤ next = h.taken.later in
    let same : out ≡ here = f ∙ sym e in
    record {
      taken = subst (λ z. AreTaken is_taken at z out) d (subst (λ z. AreTaken is_taken at from z) (sym f) t);
      free = λ less. subst (λ z. HasNone is_taken (at z)) (sym same) (h.free (omega (arith, ints, m, stays, e)) (omega (arith, ints, less, same)));
    }

-- ---- rows in which nothing becomes free

or_is : (P : Type 0) (u v : Bool) → (u || v) ≡ true → (u ≡ true → P) → (v ≡ true → P) → P
or_is P true v e f g = f refl
or_is P false v e f g = g e

holds_on : (a : Area) (row next between column : ℤ) → (row <ℤ a.rows.end → next ≤ℤ a.rows.end) → row <ℤ between → between <ℤ next → holds a (between -ℤ pos 1) column ≡ true → holds a between column ≡ true
holds_on a row next between column end low high h =
    let parts : (within a.rows (between -ℤ pos 1) ≡ true) × (within a.columns column ≡ true) = and_parts (within a.rows (between -ℤ pos 1)) (within a.columns column) h in
    let r : (a.rows.start ≤ℤ (between -ℤ pos 1)) × ((between -ℤ pos 1) <ℤ a.rows.end) = within_from a.rows (between -ℤ pos 1) parts.0 in
    let far : next ≤ℤ a.rows.end = end (omega (arith, ints, low, r.1)) in
    and_from (within a.rows between) (within a.columns column) (to_within a.rows between (omega (arith, ints, r.0)) (omega (arith, ints, far, high))) parts.1

pub kept_in : (blocks : Blocks) (row at first next : ℤ) → at ≡ row → IsKept (held blocks.bands) at first → row <ℤ next → next ≤ℤ first → (row <ℤ blocks.block.rows.end → next ≤ℤ blocks.block.rows.end) → (row <ℤ blocks.run.rows.end → next ≤ℤ blocks.run.rows.end) → IsKept (held_in blocks) row next
kept_in blocks row at first next same h later within_first block run = record {
  later = later;
  each = λ between column low high e.
      or_is (held_in blocks between column ≡ true) (held blocks.bands (between -ℤ pos 1) column || holds blocks.block (between -ℤ pos 1) column) (holds blocks.run (between -ℤ pos 1) column) e
      (λ f. or_is (held_in blocks between column ≡ true) (held blocks.bands (between -ℤ pos 1) column) (holds blocks.block (between -ℤ pos 1) column) f
      (λ g. first_yes (held blocks.bands between column || holds blocks.block between column) (holds blocks.run between column)
      (first_yes (held blocks.bands between column) (holds blocks.block between column) (h.each between column (omega (arith, ints, low, same)) (omega (arith, ints, high, within_first)) g)))
      (λ g. first_yes (held blocks.bands between column || holds blocks.block between column) (holds blocks.run between column) (last_yes (held blocks.bands between column) (holds blocks.block between column) (holds_on blocks.block row next between column block low high g))))
      (λ f. last_yes (held blocks.bands between column || holds blocks.block between column) (holds blocks.run between column) (holds_on blocks.run row next between column run low high f));
}
