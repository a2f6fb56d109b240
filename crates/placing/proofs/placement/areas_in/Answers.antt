use Rattle.std.proofs.Common.{arith, ap, sym, ◌∙◌, map, length}
use Rattle.lunit.specs.declared.geometry.Area.{Area}
use Rattle.node_arena.specs.Numbers.{child_at}
use Rattle.node_arena.specs.declared.number.NodeId.{NodeId}
use Rattle.part_rules.specs.Placement.{range_of}
use Rattle.placing.specs.Along.{span_along}
use Rattle.placing.specs.Areas.{siblings_at}
use Rattle.placing.specs.Insides.{cut_to}
use Rattle.placing.specs.Nodes.{bare, sight_at}
use Rattle.placing.specs.Seats.{context_of}
use Rattle.placing.specs.Wishes.{areas_by}
use Rattle.placing.proofs.Siblings.{all_within}
use Rattle.placing.proofs.Whole.{is_placed}
use Rattle.placing.proofs.placement.areas_in.Goals as goal

pub placed-requires-clause-few : goal.placed-requires-clause-few
placed-requires-clause-few c = omega (arith, ap length c.as_slice.ensures, c.in_ok-numbers.ensures.count, c.requires.readable.children c.args.id)

pub placed-requires-clause-numbers : goal.placed-requires-clause-numbers
placed-requires-clause-numbers c = all_within c.in_ok-numbers.numbers c.as_slice.result.now c.as_slice.ensures c.children-children.ensures.count c.in_ok-numbers.ensures.within

pub cut_areas-requires-clause-numbers : goal.cut_areas-requires-clause-numbers
cut_areas-requires-clause-numbers c = all_within c.in_ok-numbers.numbers c.as_slice-2.result.now c.as_slice-2.ensures c.children-children.ensures.count c.in_ok-numbers.ensures.within

pub returns : goal.returns
returns c =
    let b = bare c.args.tree.now.tree in
    let id = c.args.id in
    let context = context_of c.args.context.now in
    is_placed b id context (record { areas = c.in_ok-areas-2.areas; numbers = c.in_ok-numbers.numbers; columns = c.range-columns.result; rows = c.range-rows.result }) c.limits-limits.result c.in_ok-areas.areas.items
    c.in_ok-numbers.ensures.value
    (ap (map (child_at b id)) (sym c.as_slice-2.ensures) ∙ c.in_ok-areas-2.ensures.children)
    (c.in_ok-areas.ensures.value ∙ ap (areas_by context (sight_at b id).label.grid (siblings_at b id)) c.as_slice.ensures)
    (c.in_ok-areas-2.ensures.areas ∙ ap (map (cut_to c.limits-limits.result)) c.deref.ensures.value)
    c.limits-limits.ensures.columns c.limits-limits.ensures.rows c.limits-limits.ensures.fit.0 c.limits-limits.ensures.fit.1
    c.in_ok-areas.ensures.full
    (c.range-columns.ensures ∙ (λ i. range_of (c.tracks.ensures.value i) (map (λ (e : NodeId × Area). span_along 0 e.1) (c.as_slice-3.ensures i))))
    (c.range-rows.ensures ∙ (λ i. range_of (c.tracks-2.ensures.value i) (map (λ (e : NodeId × Area). span_along 1 e.1) (c.as_slice-4.ensures i))))
