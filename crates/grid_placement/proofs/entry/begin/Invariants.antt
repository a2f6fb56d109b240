use Rattle.std.proofs.Common.{◌≡◌, ◌++◌, drop, map}
use Rattle.part_rules.specs.Placement.{areas_of, begun}
use Rattle.grid_placement.specs.Entries.{all_seen}
use Rattle.grid_placement.specs.Wishes.{wish_in_flow}
use Rattle.grid_placement.proofs.entry.begin.Given as goal

abbrev pub invariant-loop-item : goal.invariant-loop-item
invariant-loop-item g l =
    let areas = g.O.Occupancy.areas in
    record {
      entries : all_seen l.entries.items ++ map begun (map (wish_in_flow l.column_flow) (drop l.item-index l.items)) ≡ map begun (map (wish_in_flow l.column_flow) l.items);
      cells : areas l.cells ++ areas_of (map begun (map (wish_in_flow l.column_flow) (drop l.item-index l.items))) ≡ areas_of (map begun (map (wish_in_flow l.column_flow) l.items));
    }
