-- Rooms below 0 count as 0.
use Rattle.std.proofs.Common.{arith, ap, ◌≡◌, refl, ℤ, Option, Some, None}
use Rattle.std.proofs.lemmas.Int.{ints, clamps}
use Rattle.part_rules.specs.Tracks.{lesser}
use Rattle.track_sizing.specs.Here.{floored}

pub floored_lesser : (a b : Option ℤ) → floored (lesser a b) ≡ lesser (floored a) (floored b)
floored_lesser None b = refl
floored_lesser (Some a) None = refl
floored_lesser (Some a) (Some b) = ap Some (omega (arith, ints, clamps))
