-- Halves of a difference of gutters are differences.
use Rattle.std.proofs.Common.{arith, ◌≡◌, ℤ, ◌-ℤ◌}
use Rattle.std.proofs.lemmas.Int.{ints}
use Rattle.lunit.specs.Units.{floor_div}
use Rattle.part_rules.proofs.Floor.{floor_div_low, floor_div_high}
use Rattle.subgrid_view.specs.Ranges.{IsDifference}

-- what is left of a difference beside the half that is rounded down
pub after_in_range : (d half rest : ℤ) → half ≡ floor_div d 2 → rest ≡ d -ℤ half → IsDifference d → IsDifference rest
after_in_range d half rest e f h = (omega (arith, ints, floor_div_low d 2 (omega arith), floor_div_high d 2 (omega arith), e, f, h.0, h.1), omega (arith, ints, floor_div_low d 2 (omega arith), floor_div_high d 2 (omega arith), e, f, h.0, h.1))
