use Rattle.std.proofs.Common.{subst}
use Rattle.node_arena.specs.Plain.{IsSound, Nodes}
use Rattle.placing.specs.declared.node.Node.{Node}
use Rattle.page_tree.specs.Pages.{Held, Stands}
use Rattle.page_tree.proofs.page.Page.stands.Goals as goal

pub returns : goal.returns
returns c =
    let sound = subst (λ (n : Nodes Node). IsSound n) c.named_tree-tree.ensures.same c.root.ensures.sound in
    subst (λ (h : Held). Stands h.nodes.tree) c.self.view_is
    (record { rooted = c.self.invariant.rooted; styled = c.self.invariant.styled; each = sound.numbered.each; named = c.named_tree-tree.ensures.named; distinct = sound.distinct; low = sound.low })
