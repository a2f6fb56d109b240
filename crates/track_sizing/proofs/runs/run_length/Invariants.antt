use Rattle.std.proofs.Common.{◌-◌, ◌≤◌, take, length}
use Rattle.track_sizing.specs.Ordered.{AreOf}
use Rattle.track_sizing.proofs.runs.run_length.Given as goal

abbrev pub invariant-loop-count : goal.invariant-loop-count
invariant-loop-count l = record { fits : l.count ≤ length l.items; of : AreOf l.number (take l.count l.items) }

abbrev pub decreases-loop-count : goal.decreases-loop-count
decreases-loop-count l = length l.items - l.count
