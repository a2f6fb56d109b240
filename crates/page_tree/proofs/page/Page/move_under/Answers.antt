use Rattle.std.proofs.Common.{IsSome, ap, sym, subst, ◌∙◌, arith}
use Rattle.node_arena.specs.Numbers.{IsDistinct, part_at}
use Rattle.node_arena.specs.Edits.{moved}
use Rattle.node_arena.specs.Plain.{Nodes}
use Rattle.placing.specs.declared.node.Node.{Node}
use Rattle.page_tree.specs.Moves.{AreApart}
use Rattle.page_tree.specs.Pages.{Held, IsPage}
use Rattle.page_tree.specs.Restyled.{RestylesUnder, restyled, with_styles}
use Rattle.page_tree.proofs.Moves.{live_left, once_left}
use Rattle.page_tree.proofs.Shifts.{moved_page}
use Rattle.page_tree.proofs.page.Page.move_under.Goals as goal

pub invariant_of-self-2 : goal.invariant_of-self-2
invariant_of-self-2 c =
    let t = c.self.inside.nodes.tree in
    let apart = subst (λ (h : Held). AreApart h.nodes.tree c.args.name.now c.args.parent.now c.args.id c.args.to) (sym c.self.view_is) c.requires in
    let under = subst (λ (n : Nodes Node). RestylesUnder c.args.to c.in_ok-styles.styles c.args.id n.tree) c.tree-tree.ensures c.in_ok-styles.ensures in
    subst (λ (n : Nodes Node). IsPage n.tree) (sym (c.restyle.ensures ∙ ap (with_styles c.in_ok-styles.styles) c.in_ok-move_to.ensures.ok))
    (moved_page t c.args.name.now c.args.parent.now c.args.id c.args.to c.args.index c.in_ok-styles.styles apart (subst (λ (n : Nodes Node). IsDistinct n.tree) c.tree-tree.ensures c.root.ensures.sound.distinct) under c.self.invariant)

pub move_to-requires : goal.move_to-requires
move_to-requires c =
    let apart = subst (λ (h : Held). AreApart h.nodes.tree c.args.name.now c.args.parent.now c.args.id c.args.to) (sym c.self.view_is) c.requires in
    record {
      live = live_left c.self.inside.nodes.tree c.args.name.now c.args.parent.now c.args.id c.args.to apart;
      once = omega (arith, once_left c.self.inside.nodes.tree c.args.name.now c.args.parent.now c.args.id c.args.to apart);
    }

pub styles_under-requires : goal.styles_under-requires
styles_under-requires c =
    let apart = subst (λ (h : Held). AreApart h.nodes.tree c.args.name.now c.args.parent.now c.args.id c.args.to) (sym c.self.view_is) c.requires in
    record {
      page = subst (λ (n : Nodes Node). IsPage n.tree) (sym c.tree-tree.ensures) c.self.invariant;
      live = subst (λ (n : Nodes Node). IsSome (part_at n.tree c.args.id)) (sym c.tree-tree.ensures) apart.found.live;
      parent = subst (λ (n : Nodes Node). IsSome (part_at n.tree c.args.to)) (sym c.tree-tree.ensures) apart.onto.live;
    }

pub returns-clause-changes : goal.returns-clause-changes
returns-clause-changes c =
    record {
      id = c.args.id;
      to = c.args.to;
      apart = c.requires;
      styles = c.in_ok-styles.styles;
      under = subst (λ (h : Held). RestylesUnder c.args.to c.in_ok-styles.styles c.args.id h.nodes.tree) c.self.view_is (subst (λ (n : Nodes Node). RestylesUnder c.args.to c.in_ok-styles.styles c.args.id n.tree) c.tree-tree.ensures c.in_ok-styles.ensures);
      is = ap (λ (n : Nodes Node). n.tree) (c.restyle.ensures ∙ ap (with_styles c.in_ok-styles.styles) c.in_ok-move_to.ensures.ok) ∙ ap (λ (h : Held). restyled c.in_ok-styles.styles (moved c.args.id c.args.to c.args.index h.nodes.tree)) c.self.view_is;
    }
