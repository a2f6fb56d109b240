use Rattle.std.proofs.Common.{◌≡◌, ◌≤◌, ◌++◌, take, length}
use Rattle.track_text.specs.Repeats.{times}
use Rattle.track_text.specs.Lines.{closed_by, open_after}
use Rattle.track_text.proofs.kept.lines_times.Given as goal

-- the lines so far, before those of the times that are left
abbrev pub invariant-loop-left : goal.invariant-loop-left
invariant-loop-left l = record {
  few : length l.lines.closed ≤ 10001;
  closed : take 10001 (l.lines.closed ++ closed_by l.lines.last (times l.left l.entries)) ≡ take 10001 (l.fn.lines.closed ++ closed_by l.fn.lines.last (times l.count l.entries));
  last : open_after l.lines.last (times l.left l.entries) ≡ open_after l.fn.lines.last (times l.count l.entries);
}

abbrev pub decreases-loop-left : goal.decreases-loop-left
decreases-loop-left l = l.left
