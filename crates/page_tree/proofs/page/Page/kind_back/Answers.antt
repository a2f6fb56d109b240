use Rattle.std.proofs.Common.{sym, ap, ◌∙◌}
use Rattle.node_arena.specs.Numbers.{value_at}
use Rattle.node_arena.specs.Plain.{Nodes}
use Rattle.placing.specs.declared.node.Node.{Node}
use Rattle.doc_text.specs.declared.document.Plain.{Plain}
use Rattle.edit_journal.specs.declared.change.Change.TheVariants as change
use Rattle.page_tree.proofs.Positions.{value_told}
use Rattle.page_tree.proofs.page.Page.kind_back.Goals as goal

pub returns : goal.returns
returns c =
    let name = c.args.name.now in
    let told = value_told c.args.self.now c.known.result c.node_of-node.result.now name c.stands.ensures.rooted c.known.ensures (c.node_of-node.ensures ∙ ap (λ (n : Nodes Node). value_at n.tree c.known.result) c.tree.ensures) in
    ap (change.Kind name) (c.in_ok-kind.ensures ∙ ap (λ (p : Plain). p.kind) (sym told.1))
