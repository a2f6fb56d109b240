use Rattle.std.proofs.Common.{◌≡◌, ◌++◌, drop}
use Rattle.track_text.specs.Lines.{closed_by, open_after}
use Rattle.track_text.proofs.kept.lines_after.Given as goal

-- the lines so far, before those that the entries that are left close
abbrev pub invariant-loop-entry : goal.invariant-loop-entry
invariant-loop-entry l = record {
  closed : l.closed ++ closed_by l.line (drop l.entry-index l.entries) ≡ closed_by l.fn.last l.entries;
  last : open_after l.line (drop l.entry-index l.entries) ≡ open_after l.fn.last l.entries;
}
