use Rattle.std.proofs.Common.{◌≡◌, Bool, ◌&&◌, Option, ap, subst, ◌∙◌}
use Rattle.std.specs.Prelude.{◌||◌, IfOk}
use Rattle.std.specs.List.{list_any}
use Rattle.std.specs.Str.{bytes_eq}
use Rattle.style_types.specs.declared.declared.DeclaredValue.{DeclaredValue}
use Rattle.style_types.specs.declared.prop.Prop.{Prop}
use Rattle.doc_text.specs.Growth.{holds}
use Rattle.doc_text.specs.Named as doc
use Rattle.page_tree.specs.declared.touched.Touched.{Touched}
use Rattle.page_tree.specs.Marking.{IsMarking}
use Rattle.page_tree.specs.Pages.{trees_in}
use Rattle.page_tree.specs.Reach.{is_felt_property, is_font_property, is_parent}
use Rattle.page_tree.proofs.Marking.{any_value}
use Rattle.page_tree.proofs.touched.by_values.Goals as goal

pub returns-clause-felt : goal.returns-clause-felt
returns-clause-felt c =
    let felt = c.any_is_felt-felt.ensures ∙ ap (list_any (λ (v : Prop × Option DeclaredValue). is_felt_property v.0)) c.as_slice-slice.ensures ∙ any_value is_felt_property c.args.values.now in
    subst (λ b. IfOk c.by_props.result (λ (m : Touched). m.felt ≡ b)) felt c.by_props.ensures.felt

pub returns-clause-numbers : goal.returns-clause-numbers
returns-clause-numbers c =
    let felt = c.any_is_felt-felt.ensures ∙ ap (list_any (λ (v : Prop × Option DeclaredValue). is_felt_property v.0)) c.as_slice-slice.ensures ∙ any_value is_felt_property c.args.values.now in
    let font = c.any_is_font-font.ensures ∙ ap (list_any (λ (v : Prop × Option DeclaredValue). is_font_property v.0)) c.as_slice-slice.ensures ∙ any_value is_font_property c.args.values.now in
    subst
    (λ (b : Bool × Bool). IfOk c.by_props.result
    (λ (m : Touched). IsMarking (λ w. bytes_eq w c.args.name.now || ((b.0 && is_parent (trees_in c.args.page.now) c.args.name.now w) || (b.1 && holds (doc.below_at c.args.name.now (trees_in c.args.page.now)) w))) c.args.page.now.nodes.tree m.numbers))
    (λ i. (felt i, font i)) c.by_props.ensures.numbers
