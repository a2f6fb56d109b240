use Rattle.std.proofs.Common.{◌≡◌, drop, map}
use Rattle.tree_rules.specs.Answers.{Kid}
use Rattle.placing.specs.Areas.{orders_at}
use Rattle.placing.specs.Nodes.{bare, kids_at}
use Rattle.placing.specs.Order.{are_ascending}
use Rattle.placing.proofs.placement.are_ascending.Given as goal

abbrev pub invariant-loop-index : goal.invariant-loop-index
invariant-loop-index l = are_ascending l.last (map (λ (k : Kid). k.label.grid.order) (drop l.index (kids_at (bare l.tree.tree) l.id))) ≡ are_ascending l.least (orders_at (bare l.tree.tree) l.id)
