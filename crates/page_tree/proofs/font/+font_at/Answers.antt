use Rattle.std.proofs.Common.{rules, ◌≡◌, Some, sym, ap, subst, ◌∙◌}
use Rattle.node_arena.specs.Numbers.{parent_at, value_at}
use Rattle.style_types.specs.Computed.{font_of}
use Rattle.page_tree.specs.Fonts.{HasFont}
use Rattle.page_tree.proofs.Fonts.{declares, root_has}
use Rattle.page_tree.proofs.Getting.{child_has}
use Rattle.page_tree.proofs.font.+font_at.Goals as goal

pub returns-in-Some-get : goal.returns-in-Some-get
returns-in-Some-get t c =
    let tree = c.args.tree.now.tree in
    let parent : parent_at tree c.args.id ≡ Some c.in-Some.parent = sym c.in-Some.ensures.number in
    let value : value_at tree c.args.id ≡ Some c.in-Some-get.node.now = search rules in
    subst (λ z. HasFont z c.args.id tree) (sym (c.font.ensures ∙ ap (λ r. font_of c.font_at.result r c.in-Some-get.node.now.declared) c.requires.root))
    (child_has tree c.args.id c.root.result c.in-Some.parent c.in-Some-get.node.now c.font_at.result c.root.ensures.root parent c.font_at.ensures (c.root.ensures.sound.distinct c.args.id)
    (declares tree c.args.id c.in-Some-get.node.now value c.root.ensures.sound.numbered.each))

pub returns-in-None : goal.returns-in-None
returns-in-None t c =
    let tree = c.args.tree.now.tree in
    subst (λ z. HasFont z c.args.id tree) (sym c.requires.root)
    (root_has tree c.args.id c.root.result c.root.ensures.root (sym (c.in-None.ensures.root c.requires.live)) (c.root.ensures.sound.distinct c.args.id))
