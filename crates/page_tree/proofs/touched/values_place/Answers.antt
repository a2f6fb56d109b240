use Rattle.std.proofs.Common.{Option, ap, ◌∙◌}
use Rattle.std.specs.List.{list_any}
use Rattle.style_types.specs.declared.declared.DeclaredValue.{DeclaredValue}
use Rattle.style_types.specs.declared.prop.Prop.{Prop}
use Rattle.page_tree.specs.Reach.{is_placing_property}
use Rattle.page_tree.proofs.Marking.{any_value}
use Rattle.page_tree.proofs.touched.values_place.Goals as goal

pub returns : goal.returns
returns c = c.any_is_placing.ensures ∙ ap (list_any (λ (v : Prop × Option DeclaredValue). is_placing_property v.0)) c.as_slice.ensures ∙ any_value is_placing_property c.args.values.now
