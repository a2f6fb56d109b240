use Rattle.std.proofs.Common.{sym, subst, replicate}
use Rattle.style_types.specs.Entries.{places_of}
use Rattle.style_types.specs.Marks.{IsMarked}
use Rattle.style_types.proofs.Marks.{marks_of_none}
use Rattle.style_types.proofs.prop_map.PropMap.new.Goals as goal

pub invariant_of-result : goal.invariant_of-result
invariant_of-result g c = subst (λ es. IsMarked (replicate 45 0) (places_of es)) (sym c.new.ensures.items) marks_of_none
