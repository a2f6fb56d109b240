use Rattle.std.proofs.Common.{◌≡◌, ◌++◌, drop}
use Rattle.open_document.specs.Coming.{indices_of}
use Rattle.open_document.proofs.coming.indices_of.Given as goal

abbrev pub invariant-loop-index : goal.invariant-loop-index
invariant-loop-index l = l.indices ++ indices_of (drop l.index-index l.changes) ≡ indices_of l.changes
