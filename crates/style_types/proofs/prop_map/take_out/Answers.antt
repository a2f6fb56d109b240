use Rattle.std.proofs.Common.{◌≡◌, ◌+◌, ◌-◌, length, get_or, slice_set, ap, ◌∙◌, arith}
use Rattle.std.specs.Vec.{vec_len}
use Rattle.style_types.specs.Order.{place_of}
use Rattle.style_types.proofs.Marks.{place_below, marked_after_take, map_after_take, is_taken}
use Rattle.style_types.proofs.prop_map.take_out.Goals as goal

pub mark_at-requires : goal.mark_at-requires
mark_at-requires g c = (place_below c.args.marks.now c.args.entries.now.items c.args.p c.args.place c.requires.marked c.requires.found).0

pub swap_remove-requires : goal.swap_remove-requires
swap_remove-requires g c =
    let at = place_below c.args.marks.now c.args.entries.now.items c.args.p c.args.place c.requires.marked c.requires.found in
    omega (arith, at.1, c.args.entries.now.ok.0)

pub returns-clause-taken : goal.returns-clause-taken
returns-clause-taken g c =
    let l : vec_len c.args.entries.now ≡ length c.args.entries.now.items = omega (arith, c.args.entries.now.ok.0) in
    let k : vec_len c.swap_remove.new.self ≡ length c.swap_remove.new.self.items = omega (arith, c.swap_remove.new.self.ok.0) in
    map_after_take c.args.marks.now c.mark-2.new.marks c.args.entries.now.items c.swap_remove.new.self.items c.args.p c.args.place c.index.result.now c.requires.marked c.requires.found
    (is_taken c.args.entries.now.items c.swap_remove.new.self.items c.args.place (vec_len c.args.entries.now) (vec_len c.swap_remove.new.self) c.index.result.now l k c.swap_remove.ensures.len c.swap_remove.ensures.by_index)
    (c.mark-2.ensures ∙ ap (λ m. slice_set m (place_of c.args.p) 0)
    (c.mark.ensures ∙ ap (slice_set c.args.marks.now (place_of c.index.result.now.0)) c.mark_at.ensures
    ∙ ap (λ x. slice_set c.args.marks.now (place_of x.0) (c.args.place + 1)) (c.index.ensures ∙ ap (λ n. get_or c.args.entries.now.items (n - 1) c.index.result.now) (c.len.ensures ∙ l))))

pub returns-clause-marked : goal.returns-clause-marked
returns-clause-marked g c =
    let l : vec_len c.args.entries.now ≡ length c.args.entries.now.items = omega (arith, c.args.entries.now.ok.0) in
    let k : vec_len c.swap_remove.new.self ≡ length c.swap_remove.new.self.items = omega (arith, c.swap_remove.new.self.ok.0) in
    marked_after_take c.args.marks.now c.mark-2.new.marks c.args.entries.now.items c.swap_remove.new.self.items c.args.p c.args.place c.index.result.now c.requires.marked c.requires.found
    (is_taken c.args.entries.now.items c.swap_remove.new.self.items c.args.place (vec_len c.args.entries.now) (vec_len c.swap_remove.new.self) c.index.result.now l k c.swap_remove.ensures.len c.swap_remove.ensures.by_index)
    (c.mark-2.ensures ∙ ap (λ m. slice_set m (place_of c.args.p) 0)
    (c.mark.ensures ∙ ap (slice_set c.args.marks.now (place_of c.index.result.now.0)) c.mark_at.ensures
    ∙ ap (λ x. slice_set c.args.marks.now (place_of x.0) (c.args.place + 1)) (c.index.ensures ∙ ap (λ n. get_or c.args.entries.now.items (n - 1) c.index.result.now) (c.len.ensures ∙ l))))
