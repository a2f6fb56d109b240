use Rattle.std.proofs.Common.{◌≡◌, ◌-◌, ◌≤◌, ◌+ℤ◌, pos, []}
use Rattle.line_names.specs.LineLists.{is_in}
use Rattle.line_names.specs.Passing.{passing}
use Rattle.line_names.proofs.line_list.LinesIn.is_empty.Given as goal

-- no line stands before a place
abbrev pub invariant-loop-place : goal.invariant-loop-place
invariant-loop-place l = record {
  from : l.self.start ≤ l.place;
  within : (l.place - l.self.start) ≤ (l.self.end - l.self.start);
  none : passing (is_in l.self.words.now l.self.first) (l.self.first +ℤ pos l.self.start) (l.place - l.self.start) ≡ [];
}
