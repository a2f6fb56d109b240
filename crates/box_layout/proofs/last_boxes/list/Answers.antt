use Rattle.std.proofs.Common.{arith, sym, ◌∙◌, ◌≡◌, Some}
use Rattle.std.specs.Prelude.{slice_get}
use Rattle.box_layout.proofs.FoundBoxes.{listed_in_place, listed_through, not_listed, slot_there, some_same}
use Rattle.box_layout.proofs.last_boxes.list.Goals as goal

pub returns-then-not-make_slots : goal.returns-then-not-make_slots
returns-then-not-make_slots c = not_listed c.args.below c.args.slots.now.items c.make_slots.new.slots.items c.args.containers.now.items c.make_slots.ensures.kept

pub list_last-requires-clause-free : goal.list_last-requires-clause-free
list_last-requires-clause-free c = λ i there.
    let own : slice_get c.make_slots.new.slots.items c.args.below.id.slot ≡ Some c.index.result.now = slot_there c.make_slots.new.slots.items c.args.below.id.slot c.slot-slot.result c.index.result.now c.slot-slot.ensures (c.make_slots.ensures.there c.if-not-make_slots.false) c.index.ensures in
    let is : c.index.result.now ≡ i = some_same c.index.result.now i (sym own ∙ there) in
    omega (arith, is, c.if-number-len.false, c.len.ensures)

pub returns-then-number-len : goal.returns-then-number-len
returns-then-number-len c =
    let own : slice_get c.make_slots.new.slots.items c.args.below.id.slot ≡ Some c.index.result.now = slot_there c.make_slots.new.slots.items c.args.below.id.slot c.slot-slot.result c.index.result.now c.slot-slot.ensures (c.make_slots.ensures.there c.if-not-make_slots.false) c.index.ensures in
    listed_through c.args.below c.args.slots.now.items c.make_slots.new.slots.items c.make_slots.new.slots.items c.args.containers.now.items c.put_at.new.containers.items c.make_slots.ensures.kept
    (listed_in_place c.args.below c.make_slots.new.slots.items c.args.containers.now.items c.put_at.new.containers.items c.index.result.now own (omega (arith, c.if-number-len.true, c.len.ensures)) c.put_at.ensures)

pub returns-else-number-len : goal.returns-else-number-len
returns-else-number-len c = listed_through c.args.below c.args.slots.now.items c.make_slots.new.slots.items c.list_last.new.slots.items c.args.containers.now.items c.list_last.new.containers.items c.make_slots.ensures.kept c.list_last.ensures
