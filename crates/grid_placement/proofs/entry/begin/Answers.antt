use Rattle.std.proofs.Common.{arith, ap, ◌∙◌, ◌<◌, ◌++◌, ◌+◌, drop, map, length}
use Rattle.part_rules.specs.Placement.{begun}
use Rattle.grid_placement.specs.Entries.{all_seen}
use Rattle.grid_placement.specs.Wishes.{wish_in_flow}
use Rattle.grid_placement.proofs.Begun.{begin_entries, begin_cells}
use Rattle.grid_placement.proofs.entry.begin.Goals as goal

pub loop-item-preserved : goal.loop-item-preserved
loop-item-preserved g c =
    let inv = c.loop-item.invariant in
    let less : c.loop-item.item-index < length c.args.items.now = omega arith in record {
      entries = ap (λ es. all_seen es ++ map begun (map (wish_in_flow c.args.column_flow) (drop (c.loop-item.item-index + 1) c.args.items.now))) c.in_ok-push.ensures.items
          ∙ begin_entries c.args.column_flow c.args.items.now c.loop-item.item-index _ _ _ _ _ less inv.entries c.wish_in_flow-wish.ensures c.fixed_area-area.ensures;
      cells = begin_cells c.args.column_flow c.args.items.now c.loop-item.item-index _ _ _ _ _ _ less inv.cells c.wish_in_flow-wish.ensures c.fixed_area-area.ensures c.in_ok-hold.ensures;
    }
