use Rattle.std.proofs.Common.{◌≡◌, Bool, false, ◌++◌, refl, sym, ap, ◌∙◌}
use Rattle.node_arena.specs.Numbers.{below_at, value_at}
use Rattle.node_arena.specs.Plain.{Nodes}
use Rattle.style_types.specs.Computed.{font_of}
use Rattle.doc_text.specs.Named as doc
use Rattle.doc_text.specs.Texts.{Word}
use Rattle.placing.specs.declared.node.Node.{Node}
use Rattle.page_tree.specs.Fonts.{root_font_of}
use Rattle.page_tree.specs.Marking.{numbers_below}
use Rattle.page_tree.specs.Pages.{trees_in}
use Rattle.page_tree.specs.Reach.{font_in, gets_other_font, root_font_in}
use Rattle.page_tree.proofs.Locals.{found_value}
use Rattle.page_tree.proofs.Lookups.{no_tree_at}
use Rattle.page_tree.proofs.Marking.{all_added, each_any, fonts_marked, none_added}
use Rattle.page_tree.proofs.Shifted.{root_named}
use Rattle.page_tree.proofs.touched.add_other_fonts.Goals as goal

pub returns-in_ok-add_below-in-Some : goal.returns-in_ok-add_below-in-Some
returns-in_ok-add_below-in-Some c =
    let t = c.args.page.now.nodes.tree in
    let plain = trees_in c.args.page.now in
    let v = found_value t c.args.name.now c.in-Some.id c.in-Some.ensures in
    let e = font_in c.args.name.now plain in
    let p = font_in c.args.parent.now plain in
    let r = root_font_in plain in
    let rem : c.root_font-rem.result ≡ r = c.root_font-rem.ensures ∙ ap (λ (n : Nodes Node). root_font_of n.tree) c.tree-tree.ensures ∙ sym (root_named t) in
    let after : c.declared_font-after.result ≡ font_of p r v.0.declared =
    c.declared_font-after.ensures v.0 (ap (λ (n : Nodes Node). value_at n.tree c.in-Some.id) c.tree-tree.ensures ∙ v.1.0) ∙ (λ i. font_of (c.font_of_name-above.ensures i) (rem i) v.0.declared) in
    all_added (λ w. gets_other_font e p r (doc.tree_at c.args.name.now plain) w) t c.args.found.now (numbers_below false e (font_of p r v.0.declared) r (below_at t c.in-Some.id)) _
    (c.in_ok-add_below-in-Some.ensures ∙ (λ i. c.args.found.now ++ numbers_below false (c.font_of_name-before.ensures i) (after i) (rem i) (below_at (c.tree-tree.ensures i).tree c.in-Some.id)))
    (fonts_marked t c.args.name.now c.in-Some.id v.0 e p r c.stands.ensures.named c.stands.ensures.distinct c.in-Some.ensures v.1.0)

pub returns-in-None : goal.returns-in-None
returns-in-None c =
    let t = c.args.page.now.nodes.tree in
    let plain = trees_in c.args.page.now in
    let mark : Word → Bool = λ w. gets_other_font (font_in c.args.name.now plain) (font_in c.args.parent.now plain) (root_font_in plain) (doc.tree_at c.args.name.now plain) w in
    none_added mark t c.args.found.now c.args.found.now refl
    (each_any (λ x. mark x.1.name ≡ false) t (λ x. ap (λ s. gets_other_font (font_in c.args.name.now plain) (font_in c.args.parent.now plain) (root_font_in plain) s x.1.name) (no_tree_at t c.args.name.now c.in-None.ensures)))
