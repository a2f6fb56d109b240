use Rattle.std.proofs.Common.{arith, ap, sym, ◌∙◌, ◌≡◌, pos, List, [], drop}
use Rattle.std.specs.Prelude.{max}
use Rattle.std.proofs.lemmas.Int.{ints, clamps}
use Rattle.std.proofs.lemmas.List.{drop_all}
use Rattle.lunit.specs.declared.geometry.Span.{Span}
use Rattle.part_rules.specs.Placement.{greatest_waiting}
use Rattle.grid_placement.specs.declared.entry.Entry.{Entry}
use Rattle.grid_placement.specs.Entries.{all_seen}
use Rattle.grid_placement.specs.Fields.{columns_after, rows_after, span_of}
use Rattle.grid_placement.proofs.Ranges.{columns_for_is, first_row_is}
use Rattle.grid_placement.proofs.field.field_of.Goals as goal

pub returns-clause-columns : goal.returns-clause-columns
returns-clause-columns c =
    let none : drop c.loop-entry.entry-index c.args.entries.now ≡ [] = drop_all c.loop-entry.entry-index c.args.entries.now (omega arith) in
    let range = columns_after (record { start = pos 0; end = pos c.args.explicit }) (all_seen c.args.entries.now) in
    let at : span_of c.loop-entry.columns ≡ range = ap (λ (es : List Entry). columns_after (span_of c.loop-entry.columns) (all_seen es)) (sym none) ∙ c.loop-entry.invariant.columns in
    let widest : max c.loop-entry.widest 0 ≡ greatest_waiting (all_seen c.args.entries.now) = ap (λ (es : List Entry). max c.loop-entry.widest (greatest_waiting (all_seen es))) (sym none) ∙ c.loop-entry.invariant.widest in
    let first : c.loop-entry.columns.first ≡ range.start = ap (λ (s : Span). s.start) at in
    let end : c.loop-entry.columns.last ≡ range.end = ap (λ (s : Span). s.end) at in
    let value = c.max.ensures.value in
    columns_for_is c.args.explicit (all_seen c.args.entries.now) _ _ (omega (arith, ints, first)) (omega (arith, ints, clamps, first, end, widest, value))

pub returns-clause-row : goal.returns-clause-row
returns-clause-row c = λ rows.
    let none : drop c.loop-entry.entry-index c.args.entries.now ≡ [] = drop_all c.loop-entry.entry-index c.args.entries.now (omega arith) in
    let range = rows_after (record { start = pos 0; end = pos 0 }) (all_seen c.args.entries.now) in
    let at : span_of c.loop-entry.rows ≡ range = ap (λ (es : List Entry). rows_after (span_of c.loop-entry.rows) (all_seen es)) (sym none) ∙ c.loop-entry.invariant.rows in
    let first : c.loop-entry.rows.first ≡ range.start = ap (λ (s : Span). s.start) at in
    let is = first_row_is rows (all_seen c.args.entries.now) in
    omega (arith, ints, first, is)
