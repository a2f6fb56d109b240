use Rattle.std.proofs.Common.{rules, ◌≡◌, Some, ap, ◌∙◌}
use Rattle.node_arena.specs.Numbers.{value_at}
use Rattle.node_arena.specs.Plain.{Nodes}
use Rattle.placing.specs.declared.node.Node.{Node}
use Rattle.page_tree.proofs.Lookups.{found_leaf, no_leaf}
use Rattle.page_tree.proofs.lookup.is_leaf_at.Goals as goal

pub returns-in-Some-get : goal.returns-in-Some-get
returns-in-Some-get c =
    let there : Some c.in-Some-get.node.now ≡ value_at c.tree.result.now.tree c.in-Some.id = search rules in
    c.is_leaf.ensures ∙ found_leaf c.args.page.now.nodes.tree c.args.name.now c.in-Some.id c.in-Some-get.node.now c.in-Some.ensures (there ∙ ap (λ (n : Nodes Node). value_at n.tree c.in-Some.id) c.tree.ensures)

pub returns-in-None : goal.returns-in-None
returns-in-None c = no_leaf c.args.page.now.nodes.tree c.args.name.now c.in-None.ensures
