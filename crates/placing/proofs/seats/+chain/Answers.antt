use Rattle.std.proofs.Common.{sym, ap, ◌∙◌, subst}
use Rattle.lunit.specs.declared.geometry.Area.{Area}
use Rattle.placing.specs.Areas.{found_area}
use Rattle.placing.specs.Nodes.{bare, sight_at}
use Rattle.placing.specs.Seats.{IsSeat}
use Rattle.placing.specs.declared.contexts.Above.TheVariants as above
use Rattle.placing.proofs.Seated.{subgrid_seat}
use Rattle.placing.proofs.seats.+chain.Goals as goal

pub seat-returns-in_ok-placed-in-Some : goal.seat-returns-in_ok-placed-in-Some
seat-returns-in_ok-placed-in-Some t c =
    let b = bare c.args.tree.now.tree in
    let id = c.args.id in
    subst (λ (a : Area). IsSeat (sight_at b id) c.args.outer.now (above.Grid c.in_ok-context-in-Some.context) a) (sym (c.area_of-area.ensures ∙ ap (found_area id) c.as_slice.ensures))
    (subgrid_seat b id c.in-Some.parent c.args.outer.now c.in_ok-context-in-Some.context c.in_ok-placed-in-Some.placed c.in-Some.ensures c.in_ok-context-in-Some.ensures c.in_ok-placed-in-Some.ensures)
