use Rattle.std.proofs.Common.{◌≡◌, ◌-◌, ◌≤◌, ◌+ℤ◌, pos, length}
use Rattle.line_names.specs.LineLists.{is_in}
use Rattle.line_names.specs.Passing.{passing}
use Rattle.line_names.proofs.line_list.LinesIn.len.Given as goal

-- the lines before a place are counted
abbrev pub invariant-loop-place : goal.invariant-loop-place
invariant-loop-place l = record {
  from : l.self.start ≤ l.place;
  few : l.count ≤ l.place;
  within : (l.place - l.self.start) ≤ (l.self.end - l.self.start);
  counted : l.count ≡ length (passing (is_in l.self.words.now l.self.first) (l.self.first +ℤ pos l.self.start) (l.place - l.self.start));
}
