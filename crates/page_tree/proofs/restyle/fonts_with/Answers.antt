use Rattle.std.proofs.Common.{sym, subst}
use Rattle.style_types.specs.Computed.{font_of}
use Rattle.page_tree.specs.Restyled.{GetsFonts}
use Rattle.page_tree.proofs.Getting.{child_gets, root_gets}
use Rattle.page_tree.proofs.restyle.fonts_with.Goals as goal

pub returns-in-Some : goal.returns-in-Some
returns-in-Some c =
    let t = c.args.tree.now.tree in
    let m = c.args.declared.now in
    subst (λ z. GetsFonts z c.root_font-root.result m c.args.id t) (sym c.font.ensures)
    (subst (λ z. GetsFonts (font_of c.font_at.result z m) z m c.args.id t) (sym c.root_font-root.ensures)
    (child_gets m t c.args.id c.root.result c.in-Some.parent c.font_at.result c.root.ensures.root (sym c.in-Some.ensures.number) c.font_at.ensures (c.root.ensures.sound.distinct c.args.id)))

pub returns-in-None : goal.returns-in-None
returns-in-None c =
    let t = c.args.tree.now.tree in
    let m = c.args.declared.now in
    subst (λ z. GetsFonts z z m c.args.id t) (sym c.font_of_root-font.ensures) (root_gets m t c.args.id c.root.result c.root.ensures.root (sym (c.in-None.ensures.root c.requires)))
