use Rattle.std.proofs.Common.{◌≡◌, drop}
use Rattle.placing.specs.Areas.{found_area}
use Rattle.placing.proofs.seats.area_of.Given as goal

abbrev pub invariant-loop-child : goal.invariant-loop-child
invariant-loop-child l = found_area l.id (drop l.child-index l.areas) ≡ found_area l.id l.areas
