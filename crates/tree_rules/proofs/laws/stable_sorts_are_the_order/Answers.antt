use Rattle.tree_rules.proofs.Sorted.{order_undone}
use Rattle.tree_rules.proofs.StableSort.{sorted_from_sort}
use Rattle.tree_rules.proofs.laws.stable_sorts_are_the_order.Goals as goal

pub returns-clause-sort : goal.returns-clause-sort
returns-clause-sort g c = sorted_from_sort

pub returns-clause-back : goal.returns-clause-back
returns-clause-back g c = order_undone
