use Rattle.std.proofs.Common.{◌≡◌, map, take}
use Rattle.value_text.specs.AreaText.{area_of}
use Rattle.value_text.proofs.area.named_areas.Given as goal

-- the areas so far
abbrev pub invariant-loop-one : goal.invariant-loop-one
invariant-loop-one l = l.named ≡ map area_of (take l.one-index l.found)
