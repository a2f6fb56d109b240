use Rattle.std.proofs.Common.{◌≡◌, take}
use Rattle.runs.proofs.repeats.parts_again.Given as goal

-- the parts so far are copied in order
abbrev pub invariant-loop-count : goal.invariant-loop-count
invariant-loop-count g l = l.copy.items ≡ take l.count-index l.parts
