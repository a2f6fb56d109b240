-- Units of which those of px at the front are counted, and parts of units.
use Rattle.std.specs.Prelude.{Bool, ℕ, zero, suc, ◌==◌, ◌||◌, List, ◌∷◌}
use Rattle.style_types.specs.Computed.{are_px}
use Rattle.style_types.specs.declared.unit.Unit.{Unit}
use Rattle.style_types.specs.declared.unit.Unit.TheVariants as unit

-- so many units of px, then the others
abbrev pub units_in : ℕ → List Unit → List Unit
units_in zero others = others
units_in (suc n) others = unit.Px ∷ units_in n others

-- each unit that the part stands for is px
abbrev pub part_is_px : ℕ × List Unit → Bool
part_is_px part = part.0 == 0 || are_px part.1
