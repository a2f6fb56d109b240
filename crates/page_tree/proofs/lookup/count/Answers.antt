use Rattle.std.proofs.Common.{ap, ◌∙◌}
use Rattle.node_arena.specs.Numbers.{count_at}
use Rattle.node_arena.specs.Plain.{Nodes}
use Rattle.placing.specs.declared.node.Node.{Node}
use Rattle.page_tree.proofs.Lookups.{found_count, no_count}
use Rattle.page_tree.proofs.lookup.count.Goals as goal

pub returns-in-Some : goal.returns-in-Some
returns-in-Some c = c.count.ensures ∙ ap (λ (n : Nodes Node). count_at n.tree c.in-Some.id) c.tree.ensures ∙ found_count c.args.page.now.nodes.tree c.args.name.now c.in-Some.id c.in-Some.ensures

pub returns-in-None : goal.returns-in-None
returns-in-None c = no_count c.args.page.now.nodes.tree c.args.name.now c.in-None.ensures
