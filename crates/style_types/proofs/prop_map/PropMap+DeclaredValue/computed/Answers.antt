use Rattle.std.proofs.Common.{sym, ap, subst, ◌∙◌}
use Rattle.style_types.specs.Computed.{computed_value}
use Rattle.style_types.specs.Entries.{places_of}
use Rattle.style_types.specs.Marks.{IsMarked}
use Rattle.style_types.proofs.Marks.{same_places}
use Rattle.style_types.proofs.prop_map.PropMap+DeclaredValue.computed.Goals as goal

pub invariant_of-result : goal.invariant_of-result
invariant_of-result c = subst (IsMarked c.self.inside.marks)
    (sym (ap places_of c.in_ok-computed_entries.ensures ∙ same_places (computed_value c.args.em c.args.rem) c.deref.result.now ∙ ap places_of c.deref.ensures.value)) c.self.invariant
