use Rattle.std.proofs.Common.{◌≡◌, take}
use Rattle.tree_rules.specs.Orders.{numbered_from}
use Rattle.placing.proofs.order.numbered.Given as goal

abbrev pub invariant-loop-number : goal.invariant-loop-number
invariant-loop-number l = l.pairs.items ≡ numbered_from 0 (take l.number l.orders)
