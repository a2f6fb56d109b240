use Rattle.std.proofs.Common.{◌≡◌, ◌++◌}
use Rattle.runs.specs.Times.{times}
use Rattle.runs.proofs.repeats.add_times.Given as goal

-- the body stands so many times behind the items before
abbrev pub invariant-loop-time : goal.invariant-loop-time
invariant-loop-time g l = l.all ≡ l.fn.all ++ times l._time l.body
