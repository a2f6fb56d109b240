use Rattle.std.proofs.Common.{◌≡◌, true, false, ◌++◌, refl, ap, ◌∙◌}
use Rattle.node_arena.specs.Numbers.{below_at}
use Rattle.node_arena.specs.Plain.{Nodes}
use Rattle.doc_text.specs.Growth.{holds}
use Rattle.doc_text.specs.Named as doc
use Rattle.placing.specs.declared.node.Node.{Node}
use Rattle.page_tree.specs.Marking.{numbers_below}
use Rattle.page_tree.specs.Pages.{trees_in}
use Rattle.page_tree.proofs.Lookups.{no_tree_at}
use Rattle.page_tree.proofs.Marking.{all_added, below_marked, each_any, none_added}
use Rattle.page_tree.proofs.touched.add_below_named.Goals as goal

pub returns-in_ok-add_below-in-Some : goal.returns-in_ok-add_below-in-Some
returns-in_ok-add_below-in-Some c =
    let t = c.args.page.now.nodes.tree in
    let r = c.root_font-rem.result in
    all_added (λ w. holds (doc.below_at c.args.name.now (trees_in c.args.page.now)) w) t c.args.found.now (numbers_below true r r r (below_at t c.in-Some.id)) _
    (c.in_ok-add_below-in-Some.ensures ∙ ap (λ (n : Nodes Node). c.args.found.now ++ numbers_below true r r r (below_at n.tree c.in-Some.id)) c.tree-tree.ensures)
    (below_marked t c.args.name.now c.in-Some.id r r r c.stands.ensures.named c.stands.ensures.distinct c.in-Some.ensures)

pub returns-in-None : goal.returns-in-None
returns-in-None c =
    let t = c.args.page.now.nodes.tree in
    none_added (λ w. holds (doc.below_at c.args.name.now (trees_in c.args.page.now)) w) t c.args.found.now c.args.found.now refl
    (each_any (λ x. holds (doc.below_at c.args.name.now (trees_in c.args.page.now)) x.1.name ≡ false) t (λ x. ap (λ s. holds (doc.below_of s) x.1.name) (no_tree_at t c.args.name.now c.in-None.ensures)))
