use Rattle.std.proofs.Common.{◌++◌, ap, ◌∙◌}
use Rattle.node_arena.specs.Numbers.{below_at}
use Rattle.page_tree.specs.Restyled.{Styles, styles_of}
use Rattle.page_tree.proofs.Restyled.{fonts_change, fonts_stay}
use Rattle.page_tree.proofs.restyle.styles_below.Goals as goal

pub returns-then-has_fonts : goal.returns-then-has_fonts
returns-then-has_fonts c =
    fonts_stay c.args.em c.args.rem c.args.id c.args.tree.now.tree c.requires.page c.requires.live (c.has_fonts.ensures.own c.if-has_fonts.true) (c.has_fonts.ensures.root c.if-has_fonts.true) c.new-found.result c.new-found.ensures

pub returns : goal.returns
returns c =
    fonts_change c.args.em c.args.rem c.args.id c.args.tree.now.tree c.root.ensures.sound.distinct c.collect.new.found
    (c.in_ok-collect.ensures ∙ ap (λ (s : Styles). s ++ styles_of c.args.em c.args.rem (below_at c.args.tree.now.tree c.args.id)) c.new-found.ensures)
