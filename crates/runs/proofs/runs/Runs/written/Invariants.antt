use Rattle.std.proofs.Common.{◌≡◌, ◌++◌, drop}
use Rattle.runs.specs.Times.{items_of}
use Rattle.runs.proofs.runs.Runs.written.Given as goal

-- the items so far, before those of the parts that are left, are all
abbrev pub invariant-loop-count : goal.invariant-loop-count
invariant-loop-count g l = l.all ++ items_of (drop l.count-index l.count-items) ≡ l.self
