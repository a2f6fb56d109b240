use Rattle.std.proofs.Common.{subst}
use Rattle.node_arena.specs.Plain.{Nodes}
use Rattle.edit_journal.specs.Steps.{bring_back}
use Rattle.placing.specs.declared.node.Node.{Node}
use Rattle.page_tree.specs.Places.{IsPlainAt}
use Rattle.page_tree.proofs.Positions.{plain_told}
use Rattle.page_tree.proofs.page.Page.bring_back.Goals as goal

pub returns : goal.returns
returns c =
    let is = subst (λ (n : Nodes Node). IsPlainAt n.tree c.known.result c.in_ok-node.node) c.tree.ensures c.in_ok-node.ensures in
    let node = plain_told c.args.self.now c.known.result c.in_ok-node.node c.args.name.now c.stands.ensures.rooted c.known.ensures is in
    λ i. bring_back (c.in_ok-parent.ensures i) (node i)
