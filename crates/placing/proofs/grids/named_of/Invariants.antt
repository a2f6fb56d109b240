use Rattle.std.proofs.Common.{◌≡◌, map, take}
use Rattle.placing.specs.Along.{name_along}
use Rattle.placing.proofs.grids.named_of.Given as goal

abbrev pub invariant-loop-name : goal.invariant-loop-name
invariant-loop-name l = l.named.items ≡ map (name_along l.axis) (take l.name-index l.areas.named)
