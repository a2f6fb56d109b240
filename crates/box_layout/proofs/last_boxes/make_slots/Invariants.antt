use Rattle.std.proofs.Common.{◌+◌, ◌-◌, length}
use Rattle.box_layout.specs.LastBoxes.{KeepsSlots}
use Rattle.box_layout.proofs.last_boxes.make_slots.Given as goal

abbrev pub invariant-loop-slots : goal.invariant-loop-slots
invariant-loop-slots l = KeepsSlots l.fn.slots.items l.slots.items

abbrev pub decreases-loop-slots : goal.decreases-loop-slots
decreases-loop-slots l = l.slot + 1 - length l.slots.items
