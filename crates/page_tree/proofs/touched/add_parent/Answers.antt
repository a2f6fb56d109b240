use Rattle.std.proofs.Common.{[], ◌∷◌, refl, sym, ap, ◌∙◌}
use Rattle.node_arena.specs.Numbers.{parent_at}
use Rattle.node_arena.specs.Plain.{Nodes}
use Rattle.placing.specs.declared.node.Node.{Node}
use Rattle.page_tree.specs.Pages.{trees_in}
use Rattle.page_tree.specs.Reach.{is_parent}
use Rattle.page_tree.proofs.Marking.{all_added, none_added, parent_marked, parent_none, parent_nowhere}
use Rattle.page_tree.proofs.touched.add_parent.Goals as goal

pub returns-in_ok-push-in-Some-parent : goal.returns-in_ok-push-in-Some-parent
returns-in_ok-push-in-Some-parent c =
    let t = c.args.page.now.nodes.tree in
    all_added (λ w. is_parent (trees_in c.args.page.now) c.args.name.now w) t c.args.found.now (c.in-Some-parent.parent ∷ []) _ c.in_ok-push-in-Some-parent.ensures.ok
    (parent_marked t c.in-Some.id c.in-Some-parent.parent c.args.name.now c.stands.ensures.named c.in-Some.ensures.tells c.stands.ensures.distinct (sym (c.in-Some-parent.ensures.number ∙ ap (λ (n : Nodes Node). parent_at n.tree c.in-Some.id) c.tree-tree.ensures)))

pub returns-in-None-parent : goal.returns-in-None-parent
returns-in-None-parent c =
    let t = c.args.page.now.nodes.tree in
    none_added (λ w. is_parent (trees_in c.args.page.now) c.args.name.now w) t c.args.found.now c.args.found.now refl
    (parent_none t c.in-Some.id c.args.name.now c.stands.ensures.named c.in-Some.ensures.tells c.stands.ensures.distinct (sym (c.in-None-parent.ensures.number ∙ ap (λ (n : Nodes Node). parent_at n.tree c.in-Some.id) c.tree-tree.ensures)))

pub returns-in-None : goal.returns-in-None
returns-in-None c =
    let t = c.args.page.now.nodes.tree in
    none_added (λ w. is_parent (trees_in c.args.page.now) c.args.name.now w) t c.args.found.now c.args.found.now refl (parent_nowhere t c.args.name.now (sym c.in-None.ensures.there))
