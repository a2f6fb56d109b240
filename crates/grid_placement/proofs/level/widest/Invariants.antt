use Rattle.std.proofs.Common.{◌≡◌, drop}
use Rattle.std.specs.Prelude.{max}
use Rattle.grid_placement.specs.Heights.{widest}
use Rattle.grid_placement.proofs.level.widest.Given as goal

abbrev pub invariant-loop-item : goal.invariant-loop-item
invariant-loop-item l = max (widest l.column_flow (drop l.item-index l.items)) l.widest ≡ widest l.column_flow l.items
