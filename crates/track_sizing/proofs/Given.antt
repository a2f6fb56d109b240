-- What an item gives, in turns.
use Rattle.std.proofs.Common.{arith, ℤ, pos, ◌≤ℤ◌, List, [], ◌∷◌}
use Rattle.std.proofs.lemmas.Int.{ints}
use Rattle.part_rules.specs.Tracks.{Track}
use Rattle.track_sizing.specs.Here.{AreBelow, AreQuiet}

pub quiet_below : (most : ℤ) (ts : List Track) → AreQuiet ts → pos 0 ≤ℤ most → AreBelow most ts
quiet_below most [] q h = tt
quiet_below most (t ∷ ts) q h = ((omega (arith, ints, q.0), omega (arith, ints, q.0)), quiet_below most ts q.1 h)

pub ruleset given = (quiet_below)
