use Rattle.tree_rules.proofs.Told.{each_limited, each_named}
use Rattle.tree_rules.proofs.laws.boxes_are_of_all_nodes.Goals as goal

pub returns-clause-names : goal.returns-clause-names
returns-clause-names c = each_named

pub returns-clause-sizes : goal.returns-clause-sizes
returns-clause-sizes c = each_limited
