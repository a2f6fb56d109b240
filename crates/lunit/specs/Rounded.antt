-- As much of an exact decimal as it takes to read it in any form.
use Rattle.std.specs.Prelude.{ℕ, ◌*◌, ◌/◌, ◌%◌, ◌^◌, ◌+◌, Bool, ◌&&◌, ◌||◌, not, ◌==◌, min, nat_lt, Option, Some, None}
use Rattle.lunit.specs.Decimals.{Decimal}
use Rattle.lunit.specs.declared.number.Rounded.{Rounded}
use Rattle.lunit.specs.declared.number.NumberForm.{NumberForm}

-- the whole number, limited to 2^32, six decimals of the rest, and whether there is a rest
abbrev pub rounded : Decimal → Rounded
rounded d = record {
  negative = d.negative;
  whole = min 4294967296 (d.numerator / 10 ^ d.places);
  millionths = d.numerator % 10 ^ d.places * 1000000 / 10 ^ d.places;
  has_rest = nat_lt 0 (d.numerator % 10 ^ d.places);
}

abbrev pub rounded_or_none : Option Decimal → Option Rounded
rounded_or_none None = None
rounded_or_none (Some d) = Some (rounded d)

-- the form allows each number that is rounded to this
abbrev pub allows : NumberForm → Rounded → Bool
allows form r =
    (nat_lt r.whole form.most || (r.whole == form.most && not r.has_rest)) &&
    (form.below_zero || (not r.negative || (r.whole == 0 && not r.has_rest)))

-- the magnitude of the number in parts of the form's scale, truncated
abbrev pub size_of : NumberForm → Rounded → ℕ
size_of form r = r.whole * form.scale + r.millionths / (1000000 / form.scale)
