use Rattle.std.proofs.Common.{◌≡◌, ◌+◌, ◌++◌, ◌∙◌, ap, arith, length}
use Rattle.std.specs.Prelude.{drop, get_or, take}
use Rattle.placing.proofs.Spliced.{LiesAt, are_movable, ends_put, ends_same, items_put, lies_at}
use Rattle.placing.proofs.telling.put_items.Goals as goal

pub overflow_sub-end : goal.overflow_sub-end
overflow_sub-end c =
    (lies_at c.args.items.now c.args.ends.now c.requires.parts.parts c.args.index c.start_of-start.result (get_or c.as_slice-2.result.now c.args.index 0) c.requires.parts.joined c.requires.parts.ended c.requires.index
    (c.start_of-start.ensures c.requires.parts.parts (c.as_slice.ensures ∙ c.requires.parts.ended)) (ap (λ l. get_or l c.args.index 0) c.as_slice-2.ensures)).forth

pub write_items-requires-clause-within : goal.write_items-requires-clause-within
write_items-requires-clause-within c =
    let lies : LiesAt c.args.items.now c.args.ends.now c.args.index c.start_of-start.result (get_or c.as_slice-2.result.now c.args.index 0) = lies_at c.args.items.now c.args.ends.now c.requires.parts.parts c.args.index c.start_of-start.result
    (get_or c.as_slice-2.result.now c.args.index 0) c.requires.parts.joined c.requires.parts.ended c.requires.index (c.start_of-start.ensures c.requires.parts.parts (c.as_slice.ensures ∙ c.requires.parts.ended)) (ap (λ l. get_or l c.args.index 0) c.as_slice-2.ensures) in
    omega (arith, lies.forth, lies.within, c.if-end-start.true)

pub returns-then-end-start-clause-items : goal.returns-then-end-start-clause-items
returns-then-end-start-clause-items c = λ parts e f.
    let lies : LiesAt c.args.items.now c.args.ends.now c.args.index c.start_of-start.result (get_or c.as_slice-2.result.now c.args.index 0) = lies_at c.args.items.now c.args.ends.now c.requires.parts.parts c.args.index c.start_of-start.result
    (get_or c.as_slice-2.result.now c.args.index 0) c.requires.parts.joined c.requires.parts.ended c.requires.index (c.start_of-start.ensures c.requires.parts.parts (c.as_slice.ensures ∙ c.requires.parts.ended)) (ap (λ l. get_or l c.args.index 0) c.as_slice-2.ensures) in
    let last : c.start_of-start.result + length c.args.own.now ≡ (get_or c.as_slice-2.result.now c.args.index 0) = omega (arith, lies.forth, c.if-end-start.true) in
    items_put c.args.items.now c.args.ends.now parts c.args.index c.start_of-start.result (get_or c.as_slice-2.result.now c.args.index 0) c.args.own.now c.write_items.new.items e f c.requires.index (c.start_of-start.ensures parts (c.as_slice.ensures ∙ f))
    (ap (λ l. get_or l c.args.index 0) c.as_slice-2.ensures)
    (c.write_items.ensures.items ∙ ap (λ n. take c.start_of-start.result c.args.items.now ++ c.args.own.now ++ drop n c.args.items.now) last)

pub returns-then-end-start-clause-ends : goal.returns-then-end-start-clause-ends
returns-then-end-start-clause-ends c =
    λ parts e f. ends_same c.args.ends.now parts c.args.index c.start_of-start.result (get_or c.as_slice-2.result.now c.args.index 0) c.args.own.now f c.requires.index (c.start_of-start.ensures parts (c.as_slice.ensures ∙ f)) (ap (λ l. get_or l c.args.index 0) c.as_slice-2.ensures)
    c.if-end-start.true

pub splice_items-requires : goal.splice_items-requires
splice_items-requires c =
    let lies : LiesAt c.args.items.now c.args.ends.now c.args.index c.start_of-start.result (get_or c.as_slice-2.result.now c.args.index 0) = lies_at c.args.items.now c.args.ends.now c.requires.parts.parts c.args.index c.start_of-start.result
    (get_or c.as_slice-2.result.now c.args.index 0) c.requires.parts.joined c.requires.parts.ended c.requires.index (c.start_of-start.ensures c.requires.parts.parts (c.as_slice.ensures ∙ c.requires.parts.ended)) (ap (λ l. get_or l c.args.index 0) c.as_slice-2.ensures) in
    (lies.forth, lies.within)

pub overflow_sub-end-2 : goal.overflow_sub-end-2
overflow_sub-end-2 c =
    (lies_at c.args.items.now c.args.ends.now c.requires.parts.parts c.args.index c.start_of-start.result (get_or c.as_slice-2.result.now c.args.index 0) c.requires.parts.joined c.requires.parts.ended c.requires.index
    (c.start_of-start.ensures c.requires.parts.parts (c.as_slice.ensures ∙ c.requires.parts.ended)) (ap (λ l. get_or l c.args.index 0) c.as_slice-2.ensures)).forth

pub move_ends-requires : goal.move_ends-requires
move_ends-requires c =
    are_movable c.args.items.now c.args.ends.now c.requires.parts.parts c.args.index c.start_of-start.result (get_or c.as_slice-2.result.now c.args.index 0) c.args.own.now c.splice_items.new.items c.requires.parts.joined c.requires.parts.ended c.requires.index
    (c.start_of-start.ensures c.requires.parts.parts (c.as_slice.ensures ∙ c.requires.parts.ended)) (ap (λ l. get_or l c.args.index 0) c.as_slice-2.ensures)
    c.in_ok-splice_items.ensures.items c.in_ok-splice_items.ensures.room

pub returns-clause-items : goal.returns-clause-items
returns-clause-items c =
    λ parts e f. items_put c.args.items.now c.args.ends.now parts c.args.index c.start_of-start.result (get_or c.as_slice-2.result.now c.args.index 0) c.args.own.now c.splice_items.new.items e f c.requires.index (c.start_of-start.ensures parts (c.as_slice.ensures ∙ f))
    (ap (λ l. get_or l c.args.index 0) c.as_slice-2.ensures) c.in_ok-splice_items.ensures.items

pub returns-clause-ends : goal.returns-clause-ends
returns-clause-ends c =
    λ parts e f. ends_put c.args.ends.now parts c.args.index c.start_of-start.result (get_or c.as_slice-2.result.now c.args.index 0) c.args.own.now c.move_ends.new.ends f c.requires.index (c.start_of-start.ensures parts (c.as_slice.ensures ∙ f))
    (ap (λ l. get_or l c.args.index 0) c.as_slice-2.ensures) c.move_ends.ensures
