use Rattle.std.proofs.Common.{◌≡◌, ◌++◌, drop}
use Rattle.box_layout.specs.Shares.{nothing_for}
use Rattle.box_layout.proofs.line.nothing_for.Given as goal

abbrev pub invariant-loop-child : goal.invariant-loop-child
invariant-loop-child l = l.taken.items ++ nothing_for (drop l._child-index l.line) ≡ nothing_for l.line
