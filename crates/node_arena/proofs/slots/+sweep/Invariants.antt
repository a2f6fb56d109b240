use Rattle.std.proofs.Common.{◌≡◌, drop}
use Rattle.node_arena.specs.Inside.{swept}
use Rattle.node_arena.proofs.slots.+sweep.Given as goal

abbrev pub decreases-sweep : goal.decreases-sweep
decreases-sweep g l = l.levels

abbrev pub invariant-loop-number : goal.invariant-loop-number
invariant-loop-number g l = swept l.levels (drop l.number-index l.numbers) l.slots.slots ≡ swept l.levels l.numbers l.fn.slots.slots
