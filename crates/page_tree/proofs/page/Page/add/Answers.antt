use Rattle.std.proofs.Common.{◌≡◌, None, ap, sym, subst, ◌∙◌}
use Rattle.plain_tree.specs.Trees.{leafless, tree}
use Rattle.node_arena.specs.Edits.{grafted}
use Rattle.node_arena.specs.Numbers.{part_at}
use Rattle.node_arena.specs.Plain.{Nodes}
use Rattle.style_types.specs.Computed.{font_of}
use Rattle.placing.specs.declared.node.Node.{Node}
use Rattle.page_tree.specs.Fonts.{HasFont, HasStyle, root_font_of}
use Rattle.page_tree.specs.Pages.{Held, IsPage}
use Rattle.page_tree.proofs.Changes.{grafted_count}
use Rattle.page_tree.proofs.Fonts.{grafted_styled}
use Rattle.page_tree.proofs.Planting.{absent}
use Rattle.page_tree.proofs.page.Page.add.Goals as goal

pub invariant_of-self-2 : goal.invariant_of-self-2
invariant_of-self-2 c =
    let t = c.self.inside.nodes.tree in
    let new = tree (c.in_ok-id.id, c.in_ok-node.node) leafless leafless in
    let under = c.in_ok-node.ensures in
    subst (λ (n : Nodes Node). IsPage n.tree) (sym c.in_ok-id.ensures.ok)
    (record {
      rooted = grafted_count c.args.parent c.args.index new t ∙ c.self.invariant.rooted;
      styled =
          grafted_styled under.font c.args.parent c.args.index new t (subst (λ (h : Held). HasFont under.font c.args.parent h.nodes.tree) (sym c.self.view_is) under.has)
          ((subst (λ (h : Held). HasStyle (font_of under.font (root_font_of h.nodes.tree) c.in_ok-node.node.declared) (root_font_of h.nodes.tree) c.in_ok-node.node) (sym c.self.view_is) under.style), (tt, tt)) c.self.invariant.styled;
    })

pub returns-clause-adds : goal.returns-clause-adds
returns-clause-adds c =
    let id = c.in_ok-id.id in
    let node = c.in_ok-node.node in
    record {
      value = node;
      label_is = c.in_ok-node.ensures.label;
      begun = c.in_ok-node.ensures.begun;
      fresh = absent c.args.self.now.nodes.tree id (subst (λ (h : Held). part_at h.nodes.tree id ≡ None) c.self.view_is c.in_ok-id.ensures.fresh);
      is = ap (λ (n : Nodes Node). n.tree) c.in_ok-id.ensures.ok ∙ ap (λ (h : Held). grafted c.args.parent c.args.index (tree (id, node) leafless leafless) h.nodes.tree) c.self.view_is;
    }
