use Rattle.std.proofs.Common.{arith, ℕ, List, ap, ◌∙◌}
use Rattle.std.specs.Prelude.{slice_get}
use Rattle.box_layout.proofs.FoundBoxes.{forgets_none, forgets_one, listed_but}
use Rattle.box_layout.proofs.last_boxes.LastBoxes.forget.Goals as goal

pub invariant_of-self : goal.invariant_of-self
invariant_of-self c = listed_but c.self.inside.slots.items c.self.inside.containers.items c.self.inside.boxes.items c.self.invariant c.put_at.new.containers.items c.number_at-number.result (omega (arith, c.if-number-len.true, c.len.ensures)) c.put_at.ensures

pub returns-then-number-len : goal.returns-then-number-len
returns-then-number-len c =
    forgets_one c.self.inside.slots.items c.self.inside.containers.items c.self.inside.boxes.items c.self.invariant c.args.self.now c.self.view_is c.put_at.new.containers.items c.args.id c.number_at-number.result
    (λ i there. c.number_at-number.ensures i (ap (slice_get c.as_slice.result.now) c.slot.ensures ∙ ap (λ (z : List ℕ). slice_get z c.args.id.slot) c.as_slice.ensures.value ∙ there)) (omega (arith, c.if-number-len.true, c.len.ensures)) c.put_at.ensures

pub returns-else-number-len : goal.returns-else-number-len
returns-else-number-len c =
    forgets_none c.self.inside.slots.items c.self.inside.containers.items c.self.inside.boxes.items c.self.invariant c.args.self.now c.self.view_is c.args.id c.number_at-number.result
    (λ i there. c.number_at-number.ensures i (ap (slice_get c.as_slice.result.now) c.slot.ensures ∙ ap (λ (z : List ℕ). slice_get z c.args.id.slot) c.as_slice.ensures.value ∙ there)) (omega (arith, c.if-number-len.false, c.len.ensures))
