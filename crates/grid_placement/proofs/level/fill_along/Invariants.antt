use Rattle.std.proofs.Common.{pos, drop, map}
use Rattle.grid_placement.specs.Heights.{in_bands}
use Rattle.grid_placement.specs.Reached.{position_of}
use Rattle.grid_placement.specs.Wishes.{area_in_flow, wish_in_flow}
use Rattle.grid_placement.proofs.Bands.{IsFilled}
use Rattle.grid_placement.proofs.level.fill_along.Given as goal

abbrev pub invariant-loop-item : goal.invariant-loop-item
invariant-loop-item l = IsFilled l.column_flow l.last (position_of l.end) l.item-index l.areas.items (map (area_in_flow l.column_flow) (in_bands l.last (pos 0) (pos 0) (map (wish_in_flow l.column_flow) l.items))) (drop l.item-index l.items)
