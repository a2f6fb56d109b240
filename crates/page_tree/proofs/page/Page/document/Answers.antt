use Rattle.std.proofs.Common.{◌≡◌, sym, ap, ◌∙◌}
use Rattle.plain_tree.specs.Trees.{count_of}
use Rattle.node_arena.specs.Plain.{Nodes}
use Rattle.placing.specs.declared.node.Node.{Node}
use Rattle.page_tree.specs.Documents.{plain_trees}
use Rattle.page_tree.specs.Pages.{Held, document_of, plain_root}
use Rattle.page_tree.proofs.Plains.{whole_root}
use Rattle.page_tree.proofs.page.Page.document.Goals as goal

pub returns : goal.returns
returns c =
    let tree = c.tree-tree.result.now.tree in
    let one : count_of tree ≡ 1 = ap (λ (n : Nodes Node). count_of n.tree) c.tree-tree.ensures ∙ c.stands.ensures.rooted in
    let whole : c.in_ok-root.root ≡ plain_root (plain_trees tree) = whole_root tree c.root.result c.in_ok-root.root one c.root.ensures.root c.in_ok-root.ensures in
    let inside : c.in_ok-root.root ≡ plain_root (plain_trees c.self.inside.nodes.tree) =
    whole ∙ ap (λ (n : Nodes Node). plain_root (plain_trees n.tree)) (c.tree-tree.ensures ∙ ap (λ (h : Held). h.nodes) (sym c.self.view_is)) in
    (λ i. record { version = c.self.inside.version; width = c.self.inside.width; height = c.self.inside.height; root = inside i }) ∙ ap document_of c.self.view_is
