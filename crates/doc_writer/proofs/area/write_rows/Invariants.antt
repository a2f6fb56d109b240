use Rattle.std.proofs.Common.{◌≡◌, ◌-◌}
use Rattle.doc_writer.specs.Areas.{rows_from}
use Rattle.doc_writer.specs.Spaces.{put}
use Rattle.doc_writer.proofs.area.write_rows.Given as goal

-- the rows that are left, after those so far, are all
abbrev pub invariant-loop-row : goal.invariant-loop-row
invariant-loop-row l = put l.line (rows_from l.areas.named l.areas.columns l.row (l.areas.rows - l.row)) ≡ put l.fn.line (rows_from l.areas.named l.areas.columns 0 l.areas.rows)
