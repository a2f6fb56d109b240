use Rattle.std.proofs.Common.{◌≡◌, ◌≤◌, ◌++◌, [], take, drop, length}
use Rattle.track_text.specs.Kept.{entries_of}
use Rattle.track_text.specs.Lines.{closed_by, open_after}
use Rattle.track_text.proofs.kept.part_lines.Given as goal

-- the lines so far, before those that the parts that are left close
abbrev pub invariant-loop-part : goal.invariant-loop-part
invariant-loop-part l = record {
  few : length l.lines.closed ≤ 10001;
  closed : take 10001 (l.lines.closed ++ closed_by l.lines.last (entries_of (drop l.part-index l.parts))) ≡ take 10001 (closed_by [] (entries_of l.parts));
  last : open_after l.lines.last (entries_of (drop l.part-index l.parts)) ≡ open_after [] (entries_of l.parts);
}
