use Rattle.std.proofs.Common.{◌≡◌, ◌++◌, take}
use Rattle.style_types.proofs.unit_list.with_others.Given as goal

-- the others so far are behind the units
abbrev pub invariant-loop-unit : goal.invariant-loop-unit
invariant-loop-unit l = l.all ≡ l.fn.units ++ take l.unit-index l.others
