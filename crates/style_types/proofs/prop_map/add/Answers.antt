use Rattle.std.proofs.Common.{◌≡◌, ◌+◌, length, slice_set, ap, ◌∙◌, arith}
use Rattle.std.specs.Vec.{vec_len}
use Rattle.style_types.specs.Order.{place_of}
use Rattle.style_types.proofs.Marks.{mark_is_none, room_left, marked_after_add}
use Rattle.style_types.proofs.Places.{map_of, insert_absent}
use Rattle.style_types.proofs.prop_map.add.Goals as goal

pub mark_at-last-requires : goal.mark_at-last-requires
mark_at-last-requires g c =
    let l : vec_len c.args.entries.now ≡ length c.args.entries.now.items = omega (arith, c.args.entries.now.ok.0) in
    let free = mark_is_none c.args.marks.now c.args.entries.now.items c.args.p c.requires.marked c.requires.absent in
    let room = room_left c.args.marks.now c.args.entries.now.items c.args.p c.requires.marked free in
    omega (arith, c.len.ensures, l, room)

pub returns-clause-ok : goal.returns-clause-ok
returns-clause-ok g c = ap map_of c.in_ok-push.ensures.items ∙ insert_absent c.args.entries.now.items c.args.p c.args.held c.requires.absent

pub returns-clause-marked : goal.returns-clause-marked
returns-clause-marked g c =
    let l : vec_len c.args.entries.now ≡ length c.args.entries.now.items = omega (arith, c.args.entries.now.ok.0) in
    let last : c.mark_at-last.result ≡ length c.args.entries.now.items + 1 = c.mark_at-last.ensures ∙ ap (λ n. n + 1) (c.len.ensures ∙ l) in
    marked_after_add c.args.marks.now c.mark.new.marks c.args.entries.now.items c.push.new.self.items c.args.p c.args.held c.requires.marked
    (mark_is_none c.args.marks.now c.args.entries.now.items c.args.p c.requires.marked c.requires.absent)
    (c.mark.ensures ∙ ap (slice_set c.args.marks.now (place_of c.args.p)) last) c.in_ok-push.ensures.items
