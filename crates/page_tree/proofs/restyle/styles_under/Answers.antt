use Rattle.std.proofs.Common.{[], ◌∷◌, ◌++◌, ap, ◌∙◌}
use Rattle.node_arena.specs.Numbers.{below_at}
use Rattle.style_types.specs.Computed.{computed_style, font_of}
use Rattle.page_tree.specs.Restyled.{Styles, styles_of}
use Rattle.page_tree.proofs.Restyled.{font_changes, font_stays}
use Rattle.page_tree.proofs.restyle.styles_under.Goals as goal

pub returns-then-has_fonts : goal.returns-then-has_fonts
returns-then-has_fonts c =
    font_stays c.font_at-em.result c.font-font.result c.args.parent c.args.id c.in-Some.node.now c.args.tree.now.tree c.requires.page c.root.ensures.sound.distinct c.in-Some.ensures c.font_at-em.ensures
    (c.font-font.ensures ∙ ap (λ r. font_of c.font_at-em.result r c.in-Some.node.now.declared) c.root_font-root.ensures) (c.has_fonts.ensures.own c.if-has_fonts.true) c.new-found.result c.new-found.ensures

pub returns : goal.returns
returns c =
    let t = c.args.tree.now.tree in
    let style = c.in_ok-computed.field-0 in
    font_changes c.font_at-em.result c.font-font.result c.args.parent c.args.id c.in-Some.node.now style t c.root.ensures.sound.distinct c.in-Some.ensures c.font_at-em.ensures
    (c.font-font.ensures ∙ ap (λ r. font_of c.font_at-em.result r c.in-Some.node.now.declared) c.root_font-root.ensures)
    (c.in_ok-computed.ensures ∙ ap (λ r. computed_style c.font-font.result r c.in-Some.node.now.declared) c.root_font-root.ensures)
    c.collect.new.found
    (c.in_ok-collect.ensures ∙ ap (λ (s : Styles). s ++ styles_of c.font-font.result c.root_font-root.result (below_at t c.args.id)) (c.in_ok-push.ensures.ok ∙ ap (λ (s : Styles). s ++ (c.args.id, style) ∷ []) c.new-found.ensures)
    ∙ ap (λ r. (c.args.id, style) ∷ styles_of c.font-font.result r (below_at t c.args.id)) c.root_font-root.ensures)
