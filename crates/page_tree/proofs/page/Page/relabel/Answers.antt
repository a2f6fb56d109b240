use Rattle.std.proofs.Common.{IsSome, arith, ap, sym, subst, ◌∙◌}
use Rattle.node_arena.specs.Numbers.{IsDistinct, below_at, part_at, replaced}
use Rattle.node_arena.specs.Plain.{Nodes}
use Rattle.style_types.specs.Computed.{computed_style}
use Rattle.placing.specs.declared.node.Node.{Node}
use Rattle.placing.specs.Kept.{turn_at}
use Rattle.page_tree.specs.Documents.{label_of}
use Rattle.page_tree.specs.Pages.{Held, IsPage}
use Rattle.page_tree.specs.Registers.{HasName}
use Rattle.page_tree.specs.Restyled.{GetsFonts, Restyles, restyled, with_styles}
use Rattle.page_tree.proofs.Changes.{becomes_made, made_label, tells_name}
use Rattle.page_tree.proofs.Restyled.{put_at_number}
use Rattle.page_tree.proofs.page.Page.relabel.Goals as goal

pub styles_below-requires-clause-page : goal.styles_below-requires-clause-page
styles_below-requires-clause-page c = subst (λ (n : Nodes Node). IsPage n.tree) (sym c.tree-tree.ensures) c.self.invariant

pub put-requires-clause-name : goal.put-requires-clause-name
put-requires-clause-name c =
    subst (λ n. HasName c.args.id n c.self.inside.nodes.tree) (sym c.in_ok-node.ensures.name)
    (subst (λ (h : Held). HasName c.args.id c.args.name.now h.nodes.tree) (sym c.self.view_is) (tells_name c.args.id c.args.name.now c.args.self.now.nodes.tree c.requires.tells))

pub invariant_of-self : goal.invariant_of-self
invariant_of-self c =
    let t = c.self.inside.nodes.tree in
    let v = c.in_ok-node.node in
    let em = c.fonts_with-font.result.0 in
    let rem = c.fonts_with-font.result.1 in
    let gets = subst (λ (n : Nodes Node). GetsFonts em rem c.args.declared c.args.id n.tree) c.tree-tree.ensures c.fonts_with-font.ensures in
    let new = subst (λ (n : Nodes Node). Restyles em rem c.in_ok-styles.styles (below_at n.tree c.args.id)) c.tree-tree.ensures c.in_ok-styles.ensures in
    let style = c.in_ok-node.ensures.style ∙ ap (computed_style em rem) (sym c.in_ok-node.ensures.declared) in
    subst (λ (n : Nodes Node). IsPage n.tree) (sym (c.restyle.ensures ∙ ap (with_styles c.in_ok-styles.styles) c.put.ensures))
    (put_at_number em rem c.args.id v c.in_ok-styles.styles t c.self.invariant (subst (λ (h : Held). IsSome (part_at h.nodes.tree c.args.id)) (sym c.self.view_is) c.requires.live) (subst (λ d. GetsFonts em rem d c.args.id t) (sym c.in_ok-node.ensures.declared) gets) style new
    (subst (λ (n : Nodes Node). IsDistinct n.tree) c.tree-tree.ensures c.root.ensures.sound.distinct))

pub returns-clause-changes : goal.returns-clause-changes
returns-clause-changes c change becomes =
    let t = c.args.self.now.nodes.tree in
    let v = c.in_ok-node.node in
    let label = made_label v c.args.name.now c.args.kind c.args.declared c.in_ok-node.ensures.name c.in_ok-node.ensures.kind c.in_ok-node.ensures.declared in
    record {
      id = c.args.id;
      found = c.requires;
      value = v;
      kept = c.in_ok-node.ensures.kept;
      past = c.in_ok-node.ensures.past;
      turn = c.in_ok-node.ensures.turn ∙ c.turn_of-turn.ensures ∙ ap (λ (n : Nodes Node). turn_at n.tree c.args.id) c.tree-tree.ensures ∙ ap (λ (h : Held). turn_at h.nodes.tree c.args.id) c.self.view_is;
      label = becomes_made c.args.id change _ (label_of v) t label becomes;
      styles = c.in_ok-styles.styles;
      is = ap (λ (n : Nodes Node). n.tree) (c.restyle.ensures ∙ ap (with_styles c.in_ok-styles.styles) c.put.ensures) ∙ ap (λ (h : Held). restyled c.in_ok-styles.styles (replaced c.args.id v h.nodes.tree)) c.self.view_is;
    }
