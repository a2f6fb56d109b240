use Rattle.std.proofs.Common.{◌≤◌, [], get_or, length}
use Rattle.line_names.specs.SetLists.{sets_of, AreKinds}
use Rattle.line_names.specs.Tables.{AreLines}
use Rattle.line_names.proofs.set_list.SetList.of.Given as goal

-- the list of the lines so far
abbrev pub invariant-loop-line : goal.invariant-loop-line
invariant-loop-line l = record {
  lines : AreLines (λ line. get_or l.sets line []) l.line (sets_of l.held l.kinds);
  kinds : AreKinds (length l.held) l.kinds;
  few : length l.held ≤ l.line;
}
