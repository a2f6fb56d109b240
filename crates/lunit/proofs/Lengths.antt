-- A length that is read is within the range of lengths.
use Rattle.std.proofs.Common.{arith, ap, sym, ◌∙◌, ◌≡◌, ◌≤◌, ℤ, pos, negsuc, unsigned_abs, Option, Some, Ok}
use Rattle.std.proofs.lemmas.Int.{ints, int_max_is, int_min_is}
use Rattle.std.specs.Int.{int_min}
use Rattle.lunit.specs.Decimals.{length_or_bad}
use Rattle.lunit.specs.Units.{clamp, top, bottom}

pub clamp_near : (z : ℤ) → unsigned_abs z ≤ 67108864 → clamp z ≡ z
unfolding clamp
clamp_near (pos n) h = omega (arith, ints, int_max_is bottom (int_min top (pos n)), int_min_is top (pos n))
clamp_near (negsuc n) h = omega (arith, ints, int_max_is bottom (int_min top (negsuc n)), int_min_is top (negsuc n))

pub length_read : (z : ℤ) (o : Option ℤ) → o ≡ Some z → unsigned_abs z ≤ 67108864 → Ok (clamp z) ≡ length_or_bad o
length_read z o e h = ap Ok (clamp_near z h) ∙ ap length_or_bad (sym e)
