use Rattle.std.proofs.Common.{true, false, refl, sym, ap, ◌∙◌}
use Rattle.node_arena.specs.Numbers.{is_among, top_numbers, way_up}
use Rattle.node_arena.specs.Plain.{Nodes}
use Rattle.placing.specs.declared.node.Node.{Node}
use Rattle.page_tree.proofs.Moves.{cycle_is, move_told}
use Rattle.page_tree.proofs.Refusals.{root_named}
use Rattle.page_tree.proofs.Removals.{top_is}
use Rattle.page_tree.proofs.refusal.of_move_to.Goals as goal

pub returns-then-is : goal.returns-then-is
returns-then-is c =
    let top = sym (ap (λ (n : Nodes Node). top_numbers n.tree) c.tree-tree.ensures) ∙ c.root.ensures.root in
    c.told.ensures
    ∙ sym
    (move_told c.args.page.now c.stands.ensures.rooted c.args.named.now c.args.parent.now c.args.index c.args.at true true true _ (sym c.requires.found.there) (sym c.requires.onto.there)
    (root_named c.args.page.now c.root.result c.args.id c.args.named.now.name top c.requires.found.tells ∙ sym c.is.ensures ∙ c.if-is.true) refl)

pub returns-then-is_on_way : goal.returns-then-is_on_way
returns-then-is_on_way c =
    let top = sym (ap (λ (n : Nodes Node). top_numbers n.tree) c.tree-tree.ensures) ∙ c.root.ensures.root in
    let way = sym (c.is_on_way.ensures ∙ ap (λ (n : Nodes Node). is_among c.args.id (way_up n.tree c.args.to)) c.tree-tree.ensures) ∙ c.if-is_on_way.true in
    c.told-then-is_on_way.ensures
    ∙ sym
    (move_told c.args.page.now c.stands.ensures.rooted c.args.named.now c.args.parent.now c.args.index c.args.at true true false true (sym c.requires.found.there) (sym c.requires.onto.there)
    (root_named c.args.page.now c.root.result c.args.id c.args.named.now.name top c.requires.found.tells ∙ sym c.is.ensures ∙ c.if-is.false)
    (cycle_is c.args.page.now.nodes.tree c.args.named.now.name c.args.parent.now.name c.args.id c.args.to true c.requires.found c.requires.onto way))

pub of_place-requires : goal.of_place-requires
of_place-requires c =
    let top = sym (ap (λ (n : Nodes Node). top_numbers n.tree) c.tree-tree.ensures) ∙ c.root.ensures.root in
    record {
      found = c.requires.found;
      onto = c.requires.onto;
      low = top_is c.args.page.now.nodes.tree c.root.result c.args.id false top (sym c.is.ensures ∙ c.if-is.false);
      apart = sym (c.is_on_way.ensures ∙ ap (λ (n : Nodes Node). is_among c.args.id (way_up n.tree c.args.to)) c.tree-tree.ensures) ∙ c.if-is_on_way.false;
    }

pub returns : goal.returns
returns c =
    let top = sym (ap (λ (n : Nodes Node). top_numbers n.tree) c.tree-tree.ensures) ∙ c.root.ensures.root in
    let way = sym (c.is_on_way.ensures ∙ ap (λ (n : Nodes Node). is_among c.args.id (way_up n.tree c.args.to)) c.tree-tree.ensures) ∙ c.if-is_on_way.false in
    c.of_place.ensures
    ∙ sym
    (move_told c.args.page.now c.stands.ensures.rooted c.args.named.now c.args.parent.now c.args.index c.args.at true true false false (sym c.requires.found.there) (sym c.requires.onto.there)
    (root_named c.args.page.now c.root.result c.args.id c.args.named.now.name top c.requires.found.tells ∙ sym c.is.ensures ∙ c.if-is.false)
    (cycle_is c.args.page.now.nodes.tree c.args.named.now.name c.args.parent.now.name c.args.id c.args.to false c.requires.found c.requires.onto way))
