use Rattle.std.proofs.Common.{◌≡◌, false, sym, ap, subst, ◌∙◌}
use Rattle.node_arena.specs.Edits.{removed}
use Rattle.node_arena.specs.Faults.{is_top}
use Rattle.node_arena.specs.Plain.{Nodes}
use Rattle.placing.specs.declared.node.Node.{Node}
use Rattle.page_tree.specs.Pages.{Held, IsPage}
use Rattle.page_tree.proofs.Removals.{removed_count, removed_styled}
use Rattle.page_tree.proofs.page.Page.take_out.Goals as goal

pub invariant_of-self : goal.invariant_of-self
invariant_of-self c =
    let t = c.self.inside.nodes.tree in
    let low : is_top t c.args.id ≡ false = ap (λ (h : Held). is_top h.nodes.tree c.args.id) c.self.view_is ∙ c.requires.low in
    subst (λ (n : Nodes Node). IsPage n.tree) (sym c.remove.ensures)
    (record { rooted = removed_count c.args.id t low ∙ c.self.invariant.rooted; styled = removed_styled c.args.id t low c.self.invariant.styled })

pub returns-clause-nodes : goal.returns-clause-nodes
returns-clause-nodes c = ap (λ (n : Nodes Node). n.tree) c.remove.ensures ∙ ap (λ (h : Held). removed c.args.id h.nodes.tree) c.self.view_is
