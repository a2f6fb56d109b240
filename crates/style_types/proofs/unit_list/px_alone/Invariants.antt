use Rattle.std.proofs.Common.{◌≡◌, []}
use Rattle.style_types.specs.UnitLists.{units_in}
use Rattle.style_types.proofs.unit_list.px_alone.Given as goal

-- so many of px
abbrev pub invariant-loop-unit : goal.invariant-loop-unit
invariant-loop-unit l = l.units ≡ units_in l._unit []
