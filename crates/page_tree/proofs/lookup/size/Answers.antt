use Rattle.std.proofs.Common.{ap, sym, ◌∙◌}
use Rattle.plain_tree.specs.Trees.{size_of}
use Rattle.node_arena.specs.Plain.{Nodes}
use Rattle.placing.specs.declared.node.Node.{Node}
use Rattle.page_tree.proofs.Changes.{plain_size}
use Rattle.page_tree.proofs.lookup.size.Goals as goal

pub returns : goal.returns
returns c = c.len.ensures ∙ ap (λ (n : Nodes Node). size_of n.tree) c.tree.ensures ∙ sym (plain_size c.args.page.now.nodes.tree)
