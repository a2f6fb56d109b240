use Rattle.std.proofs.Common.{◌≤◌, length}
use Rattle.line_names.proofs.set_list.kind_of.Given as goal

-- so many sets are left
abbrev pub invariant-loop-left : goal.invariant-loop-left
invariant-loop-left l = l.left ≤ length l.sets

abbrev pub decreases-loop-left : goal.decreases-loop-left
decreases-loop-left l = l.left
