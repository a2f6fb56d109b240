use Rattle.std.proofs.Common.{◌≡◌, ◌++◌, drop}
use Rattle.box_layout.specs.Shares.{shares_of}
use Rattle.box_layout.proofs.line.shares_of.Given as goal

abbrev pub invariant-loop-child : goal.invariant-loop-child
invariant-loop-child l = l.rows.items ++ shares_of (drop l.child-index l.line) ≡ shares_of l.line
