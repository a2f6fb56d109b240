use Rattle.std.proofs.Common.{◌≡◌, ◌+◌, length, drop}
use Rattle.node_arena.specs.Numbers.{dropped}
use Rattle.node_arena.proofs.slots.count_others.Given as goal

abbrev pub invariant-loop-number : goal.invariant-loop-number
invariant-loop-number l = l.number-index + length (dropped l.id (drop l.number-index l.numbers)) ≡ length (dropped l.id l.numbers)
