-- A test that holds of no item of a list.
use Rattle.std.proofs.Common.{◌≡◌, refl, true≢false, Bool, true, false, ◌||◌}

pub neither : (b c : Bool) → (b || c) ≡ false → (b ≡ false) × (c ≡ false)
neither true c e = absurd (true≢false e)
neither false c e = (refl, e)
