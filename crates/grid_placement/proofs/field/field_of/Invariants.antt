use Rattle.std.proofs.Common.{◌≡◌, pos, drop}
use Rattle.std.specs.Prelude.{max}
use Rattle.part_rules.specs.Placement.{greatest_waiting}
use Rattle.grid_placement.specs.Entries.{all_seen}
use Rattle.grid_placement.specs.Fields.{columns_after, rows_after, span_of}
use Rattle.grid_placement.proofs.field.field_of.Given as goal

abbrev pub invariant-loop-entry : goal.invariant-loop-entry
invariant-loop-entry l = record {
  columns : columns_after (span_of l.columns) (all_seen (drop l.entry-index l.entries)) ≡ columns_after (record { start = pos 0; end = pos l.explicit }) (all_seen l.entries);
  rows : rows_after (span_of l.rows) (all_seen (drop l.entry-index l.entries)) ≡ rows_after (record { start = pos 0; end = pos 0 }) (all_seen l.entries);
  widest : max l.widest (greatest_waiting (all_seen (drop l.entry-index l.entries))) ≡ greatest_waiting (all_seen l.entries);
}
