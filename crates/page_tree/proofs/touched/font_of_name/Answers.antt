use Rattle.std.proofs.Common.{sym, subst, ◌∙◌, arith}
use Rattle.node_arena.specs.Plain.{Nodes}
use Rattle.placing.specs.declared.node.Node.{Node}
use Rattle.page_tree.specs.Fonts.{HasFont}
use Rattle.page_tree.proofs.Marking.{no_name, none_font}
use Rattle.page_tree.proofs.Shifted.{font_named}
use Rattle.page_tree.proofs.touched.font_of_name.Goals as goal

pub returns-in-Some : goal.returns-in-Some
returns-in-Some c =
    let t = c.args.page.now.nodes.tree in
    sym (font_named t c.args.name.now c.in-Some.id c.font_at.result c.stands.ensures.rooted c.in-Some.ensures.tells (omega (arith, c.in-Some.ensures.once)) (subst (λ (n : Nodes Node). HasFont c.font_at.result c.in-Some.id n.tree) c.tree-tree.ensures c.font_at.ensures))

pub returns-in-None : goal.returns-in-None
returns-in-None c = c.first_font.ensures ∙ none_font c.args.page.now.nodes.tree c.args.name.now (no_name c.args.page.now.nodes.tree c.args.name.now (sym c.in-None.ensures.there))
