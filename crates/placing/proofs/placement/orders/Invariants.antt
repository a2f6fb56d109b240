use Rattle.std.proofs.Common.{◌≡◌, ◌++◌, drop, map}
use Rattle.tree_rules.specs.Answers.{Kid}
use Rattle.placing.specs.Areas.{orders_at}
use Rattle.placing.specs.Nodes.{bare, kids_at}
use Rattle.placing.proofs.placement.orders.Given as goal

abbrev pub invariant-loop-index : goal.invariant-loop-index
invariant-loop-index l = l.orders.items ++ map (λ (k : Kid). k.label.grid.order) (drop l.index (kids_at (bare l.tree.tree) l.id)) ≡ orders_at (bare l.tree.tree) l.id
