use Rattle.std.proofs.Common.{ap, ◌∙◌}
use Rattle.layout_cache.specs.Reach.{all_forgot}
use Rattle.node_arena.specs.Plain.{Nodes}
use Rattle.placing.specs.declared.node.Node.{Node}
use Rattle.placing.specs.Keeping.{without_past_of}
use Rattle.placing.specs.Nodes.{bare}
use Rattle.placing.proofs.KeptTrees.{drops_bare}
use Rattle.page_tree.specs.Pages.{Held, document_of, plain_root}
use Rattle.page_tree.proofs.Bares.{same_page, same_plain}
use Rattle.page_tree.proofs.page.Page.let_past_go.Goals as goal

pub invariant_of-self : goal.invariant_of-self
invariant_of-self c = same_page _ c.self.inside.nodes.tree (ap (λ (n : Nodes Node). bare n.tree) c.let_past_go.ensures ∙ drops_bare c.args.all c.args.reached.now c.self.inside.nodes.tree) c.self.invariant

pub returns-clause-document : goal.returns-clause-document
returns-clause-document c =
    let bares = ap (λ (n : Nodes Node). bare n.tree) c.let_past_go.ensures ∙ drops_bare c.args.all c.args.reached.now c.self.inside.nodes.tree in
    (λ i. record { version = c.self.inside.version; width = c.self.inside.width; height = c.self.inside.height; root = plain_root (same_plain c.let_past_go.new.self.tree c.self.inside.nodes.tree bares i) })
    ∙ ap document_of c.self.view_is

pub returns-clause-nodes : goal.returns-clause-nodes
returns-clause-nodes c = c.let_past_go.ensures ∙ ap (λ (h : Held). all_forgot (without_past_of c.args.all) c.args.reached.now h.nodes) c.self.view_is
