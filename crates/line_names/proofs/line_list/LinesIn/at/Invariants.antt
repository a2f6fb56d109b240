use Rattle.std.proofs.Common.{◌≡◌, ◌+◌, ◌-◌, ◌≤◌, ◌+ℤ◌, pos, length}
use Rattle.line_names.specs.LineLists.{is_in}
use Rattle.line_names.specs.Passing.{passing}
use Rattle.line_names.proofs.line_list.LinesIn.at.Given as goal

-- so many lines are left to be passed
abbrev pub invariant-loop-place : goal.invariant-loop-place
invariant-loop-place l = record {
  from : l.self.start ≤ l.place;
  within : (l.place - l.self.start) ≤ (l.self.end - l.self.start);
  passed : length (passing (is_in l.self.words.now l.self.first) (l.self.first +ℤ pos l.self.start) (l.place - l.self.start)) + l.left ≡ l.index;
}
