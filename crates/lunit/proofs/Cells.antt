-- Areas overlap where they have a cell in common.
use Rattle.std.proofs.Common.{arith, rules, ◌≡◌, ℤ, ◌<ℤ◌, true, int_lt}
use Rattle.std.specs.Int.{int_max, int_min}
use Rattle.std.proofs.lemmas.Int.{ints, int_max_is, int_min_is}
use Rattle.std.proofs.lemmas.Bool.{and_parts, and_from}
use Rattle.lunit.specs.Areas.{spans_overlap, areas_overlap, IsTrackOf, HaveCell}
use Rattle.lunit.specs.declared.geometry.Area.{Area}
use Rattle.lunit.specs.declared.geometry.Span.{Span}

from_test : (a b : ℤ) → int_lt a b ≡ true → a <ℤ b
from_test a b h = search rules

to_test : (a b : ℤ) → a <ℤ b → int_lt a b ≡ true
to_test a b h = search rules

first_track : (a b : Span) → spans_overlap a b ≡ true → IsTrackOf a (int_max a.start b.start) × IsTrackOf b (int_max a.start b.start)
first_track a b h =
    let less : int_max a.start b.start <ℤ int_min a.end b.end = from_test (int_max a.start b.start) (int_min a.end b.end) h in
    ((omega (arith, ints, int_max_is a.start b.start), omega (arith, ints, less, int_min_is a.end b.end)), (omega (arith, ints, int_max_is a.start b.start), omega (arith, ints, less, int_min_is a.end b.end)))

some_track : (a b : Span) (t : ℤ) → IsTrackOf a t → IsTrackOf b t → spans_overlap a b ≡ true
some_track a b t p q = to_test (int_max a.start b.start) (int_min a.end b.end) (omega (arith, ints, p, q, int_max_is a.start b.start, int_min_is a.end b.end))

pub overlap_has : (a b : Area) → areas_overlap a b ≡ true → HaveCell a b
overlap_has a b h =
    let both : (spans_overlap a.columns b.columns ≡ true) × (spans_overlap a.rows b.rows ≡ true) = and_parts (spans_overlap a.columns b.columns) (spans_overlap a.rows b.rows) h in
    let column : IsTrackOf a.columns (int_max a.columns.start b.columns.start) × IsTrackOf b.columns (int_max a.columns.start b.columns.start) = first_track a.columns b.columns both.0 in
    let row : IsTrackOf a.rows (int_max a.rows.start b.rows.start) × IsTrackOf b.rows (int_max a.rows.start b.rows.start) = first_track a.rows b.rows both.1 in
    record {
      column = int_max a.columns.start b.columns.start;
      row = int_max a.rows.start b.rows.start;
      first_column = column.0;
      first_row = row.0;
      second_column = column.1;
      second_row = row.1;
    }

pub has_overlap : (a b : Area) → HaveCell a b → areas_overlap a b ≡ true
has_overlap a b h = and_from (spans_overlap a.columns b.columns) (spans_overlap a.rows b.rows) (some_track a.columns b.columns h.column h.first_column h.second_column) (some_track a.rows b.rows h.row h.first_row h.second_row)
