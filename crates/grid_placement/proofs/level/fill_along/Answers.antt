use Rattle.std.proofs.Common.{arith, ap, ◌<◌, length}
use Rattle.std.proofs.lemmas.Int.{ints}
use Rattle.grid_placement.specs.declared.search.Position.{Position}
use Rattle.grid_placement.proofs.Bands.{fills_more}
use Rattle.grid_placement.proofs.Begun.{next_of}
use Rattle.grid_placement.proofs.level.fill_along.Goals as goal

pub loop-item-preserved : goal.loop-item-preserved
loop-item-preserved c =
    let less : c.loop-item.item-index < length c.args.items.now = omega arith in
    fills_more _ _ _ _ _ _ _ _ _ _ _ _ _ _ _ _ _ c.loop-item.invariant (next_of c.args.items.now c.loop-item.item-index _ less) (omega (arith, ints))
    c.wish_in_flow-wish.ensures c.tracks.ensures.value c.tracks-in-loop-item.ensures.value c.tracks.ensures.few c.tracks-in-loop-item.ensures.few c.area_after-area.ensures c.area_in_flow.ensures c.in_ok-push.ensures.items
    (ap (λ (p : Position). p.column) c.end_of-end.ensures) (ap (λ (p : Position). p.row) c.end_of-end.ensures)
