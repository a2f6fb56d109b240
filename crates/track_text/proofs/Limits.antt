-- A number of units within the range of lengths is not changed by the limits.
use Rattle.std.proofs.Common.{◌≡◌, ℕ, ◌≤◌, ℤ, pos, negsuc, unsigned_abs, arith, Bool, true, false, if◌then◌else◌, Option, Some, None, is_some, ap}
use Rattle.std.proofs.lemmas.Bool.{true≢false}
use Rattle.track_text.specs.Words.{bind}
use Rattle.std.proofs.lemmas.Int.{ints, clamps}
use Rattle.lunit.specs.Units.{clamp}

pub within_limits : (z : ℤ) (most : ℕ) → unsigned_abs z ≤ most → most ≤ 67108864 → clamp z ≡ z
unfolding clamp
within_limits (pos n) most h m = omega (arith, ints, clamps)
within_limits (negsuc n) most h m = omega (arith, ints, clamps)

-- a part that was found where there is one is the part itself
pub unit_found : {A B : Type 0} (b : Bool) (found part : A) (f : A → Option B) (other : Option B) → Some found ≡ (if b then Some part else None) → f found ≡ (if b then f part else other)
unit_found true found part f other e = ap (λ (o : Option _). bind o f) e
unit_found false found part f other e = elim (true≢false (ap is_some e)) [ ]
