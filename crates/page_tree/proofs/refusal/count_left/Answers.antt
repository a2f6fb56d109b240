use Rattle.std.proofs.Common.{◌≡◌, true, false, sym, ap, ◌∙◌, arith}
use Rattle.node_arena.specs.Faults.{is_top}
use Rattle.node_arena.specs.Numbers.{below_at, count_at}
use Rattle.node_arena.specs.Plain.{Nodes}
use Rattle.placing.specs.declared.node.Node.{Node}
use Rattle.page_tree.proofs.Moves.{with_child, without_child}
use Rattle.page_tree.proofs.refusal.count_left.Goals as goal

pub returns-then-has_child : goal.returns-then-has_child
returns-then-has_child c =
    let t = c.args.page.now.nodes.tree in
    let count = c.count-count.ensures ∙ ap (λ (n : Nodes Node). count_at n.tree c.args.to) c.tree-tree.ensures in
    let top : is_top (below_at t c.args.to) c.args.id ≡ true = sym (c.has_child.ensures ∙ ap (λ (n : Nodes Node). is_top (below_at n.tree c.args.to) c.args.id) c.tree-tree.ensures) ∙ c.if-has_child.true in
    omega (arith, with_child t c.args.named.now.name c.args.parent.now.name c.args.id c.args.to c.requires c.count-count.result count top)

pub returns-else-has_child : goal.returns-else-has_child
returns-else-has_child c =
    let t = c.args.page.now.nodes.tree in
    let count = c.count-count.ensures ∙ ap (λ (n : Nodes Node). count_at n.tree c.args.to) c.tree-tree.ensures in
    let top : is_top (below_at t c.args.to) c.args.id ≡ false = sym (c.has_child.ensures ∙ ap (λ (n : Nodes Node). is_top (below_at n.tree c.args.to) c.args.id) c.tree-tree.ensures) ∙ c.if-has_child.false in
    without_child t c.args.named.now.name c.args.parent.now.name c.args.id c.args.to c.requires c.count-count.result count top

pub overflow_sub-result : goal.overflow_sub-result
overflow_sub-result c =
    let t = c.args.page.now.nodes.tree in
    let count = c.count-count.ensures ∙ ap (λ (n : Nodes Node). count_at n.tree c.args.to) c.tree-tree.ensures in
    let top : is_top (below_at t c.args.to) c.args.id ≡ true = sym (c.has_child.ensures ∙ ap (λ (n : Nodes Node). is_top (below_at n.tree c.args.to) c.args.id) c.tree-tree.ensures) ∙ c.if-has_child.true in
    omega (arith, with_child t c.args.named.now.name c.args.parent.now.name c.args.id c.args.to c.requires c.count-count.result count top)
