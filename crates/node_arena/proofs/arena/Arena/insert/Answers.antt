use Rattle.std.proofs.Common.{refl, ap, ◌∙◌, ◌+◌}
use Rattle.node_arena.specs.Plain.{with_node}
use Rattle.node_arena.proofs.Changed.{fits_alike, whole_fits_alike}
use Rattle.node_arena.proofs.Inserting.{may_insert_in, room_kept, place_kept, fresh, whole_fits_inserted, whole_inserted}
use Rattle.node_arena.proofs.arena.Arena.insert.Goals as goal

pub invariant_of-self : goal.invariant_of-self
invariant_of-self g c = whole_fits_alike _ _ _ _ _ _ _ c.self.invariant c.in_err-make_room.ensures.alike

pub invariant_of-self-in_err-slot : goal.invariant_of-self-in_err-slot
invariant_of-self-in_err-slot g c = rw (ap (λ z. z.slots) c.in_err-slot.ensures.err) (whole_fits_alike _ _ _ _ _ _ _ c.self.invariant c.in_ok-make_room.ensures.alike)

pub link-requires-clause-room : goal.link-requires-clause-room
link-requires-clause-room g c =
    let fits = fits_alike _ _ _ _ _ _ _ c.self.invariant c.in_ok-make_room.ensures.alike in
    let may = may_insert_in _ _ c.args.parent c.args.index c.self.view_is c.in_ok-may_insert.ensures in
    room_kept _ _ _ _ _ _ _ fits c.args.parent c.args.index may c.in_ok-slot.slot _ c.in_ok-slot.ensures.was_vacant c.in_ok-slot.ensures.updates c.in_ok-make_room.ensures.room

pub link-requires-clause-index : goal.link-requires-clause-index
link-requires-clause-index g c =
    let fits = fits_alike _ _ _ _ _ _ _ c.self.invariant c.in_ok-make_room.ensures.alike in
    let may = may_insert_in _ _ c.args.parent c.args.index c.self.view_is c.in_ok-may_insert.ensures in
    place_kept _ _ _ _ _ _ _ fits c.args.parent c.args.index may c.in_ok-slot.slot _ c.in_ok-slot.ensures.was_vacant c.in_ok-slot.ensures.updates

pub invariant_of-self-2 : goal.invariant_of-self-2
invariant_of-self-2 g c =
    let fits = fits_alike _ _ _ _ _ _ _ c.self.invariant c.in_ok-make_room.ensures.alike in
    let may = may_insert_in _ _ c.args.parent c.args.index c.self.view_is c.in_ok-may_insert.ensures in
    whole_fits_inserted _ _ _ _ _ _ _ fits c.args.parent c.args.index may c.in_ok-slot.slot _ c.in_ok-slot.ensures.was_vacant c.in_ok-slot.ensures.updates _ c.link.ensures c.in_ok-slot.ensures.len refl refl c.new.ensures.items

pub returns-clause-ok : goal.returns-clause-ok
returns-clause-ok g c =
    let fits = fits_alike _ _ _ _ _ _ _ c.self.invariant c.in_ok-make_room.ensures.alike in
    let may = may_insert_in _ _ c.args.parent c.args.index c.self.view_is c.in_ok-may_insert.ensures in
    let whole = whole_inserted _ _ _ _ _ _ _ fits c.args.parent c.args.index may c.in_ok-slot.slot _ c.in_ok-slot.ensures.was_vacant c.in_ok-slot.ensures.updates _ c.link.ensures c.in_ok-slot.ensures.len refl refl c.new.ensures.items in
    (λ i. record { tree = whole i; made = c.self.inside.made + 1; most_nodes = c.self.inside.most_nodes; most_children = c.self.inside.most_children })
    ∙ ap (with_node c.args.parent c.args.index (record { slot = c.in_ok-slot.slot; turn = c.self.inside.made }) c.args.value) c.self.view_is

pub returns-clause-fresh : goal.returns-clause-fresh
returns-clause-fresh g c =
    let fits = fits_alike _ _ _ _ _ _ _ c.self.invariant c.in_ok-make_room.ensures.alike in
    let may = may_insert_in _ _ c.args.parent c.args.index c.self.view_is c.in_ok-may_insert.ensures in
    rw (← c.self.view_is) (fresh _ _ _ _ _ _ _ fits c.args.parent c.args.index may c.in_ok-slot.slot _ c.in_ok-slot.ensures.was_vacant c.in_ok-slot.ensures.updates)
