use Rattle.std.proofs.Common.{◌≡◌, ◌++◌, take, drop}
use Rattle.node_arena.specs.Numbers.{dropped}
use Rattle.node_arena.proofs.slots.drop_number.Given as goal

abbrev pub invariant-loop-index : goal.invariant-loop-index
invariant-loop-index l = (l.numbers ≡ l.fn.numbers) × (take l.index l.numbers.items ++ dropped l.id (drop l.index l.numbers.items) ≡ dropped l.id l.numbers.items)
