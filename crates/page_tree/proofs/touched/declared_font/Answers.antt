use Rattle.std.proofs.Common.{◌≡◌, Some, ap, ◌∙◌}
use Rattle.style_types.specs.Computed.{font_of}
use Rattle.placing.specs.declared.node.Node.{Node}
use Rattle.page_tree.proofs.touched.declared_font.Goals as goal

pub returns-in-Some : goal.returns-in-Some
returns-in-Some c v e =
    let there : Some c.in-Some.node.now ≡ Some v = c.in-Some.ensures ∙ e in
    let is : c.in-Some.node.now ≡ v = cc in
    c.font.ensures ∙ ap (λ (n : Node). font_of c.args.above c.args.rem n.declared) is
