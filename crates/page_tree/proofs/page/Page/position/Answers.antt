use Rattle.std.proofs.Common.{sym, ap, ◌∙◌}
use Rattle.node_arena.specs.Numbers.{below_at, parent_at, top_numbers, value_at}
use Rattle.node_arena.specs.Plain.{Nodes}
use Rattle.placing.specs.declared.node.Node.{Node}
use Rattle.page_tree.specs.Places.{place_of}
use Rattle.page_tree.proofs.Positions.{has_no_parent, position_told}
use Rattle.page_tree.proofs.page.Page.position.Goals as goal

pub unreachable-requires : goal.unreachable-requires
unreachable-requires c =
    let id = c.known-id.result in
    has_no_parent c.args.self.now id c.args.name.now c.stands.ensures.rooted c.stands.ensures.distinct c.known-id.ensures c.requires.no_root (c.in-None.ensures.number ∙ ap (λ (n : Nodes Node). parent_at n.tree id) c.tree-tree.ensures)

pub returns : goal.returns
returns c =
    let id = c.known-id.result in
    let q = c.in-Some.parent in
    let number = sym (c.in-Some.ensures.number ∙ ap (λ (n : Nodes Node). parent_at n.tree id) c.tree-tree.ensures) in
    let value = c.node_of.ensures ∙ ap (λ (n : Nodes Node). value_at n.tree q) c.tree-tree.ensures in
    let place = c.place_of-place.ensures ∙ ap (place_of id) (c.children.ensures ∙ ap (λ (n : Nodes Node). top_numbers (below_at n.tree q)) c.tree-tree.ensures) in
    (λ i. (c.node_of.result.now.name, place i))
    ∙ sym (position_told c.args.self.now id q c.node_of.result.now c.args.name.now c.stands.ensures.rooted c.stands.ensures.distinct c.known-id.ensures number value)
