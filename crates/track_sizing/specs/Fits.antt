-- What tracks are sized for.
use Rattle.std.specs.Prelude.{ℕ, ◌^◌, ℤ, pos, ◌-ℤ◌, ◌≤ℤ◌, List, [], ◌∷◌, true}
use Rattle.part_rules.specs.declared.track.Rule.{Rule}
use Rattle.part_rules.specs.declared.track.Least.TheVariants as least
use Rattle.part_rules.specs.declared.track.Most.TheVariants as most
use Rattle.part_rules.specs.Tracks.{fixed_least}
use Rattle.track_sizing.specs.Rows.{IsLimit}
use Rattle.lunit.specs.Units.{IsUnits}
use Rattle.part_rules.specs.declared.track.Space.{Space}
use Rattle.part_rules.specs.declared.track.Space.TheVariants.{Definite, MinContent, MaxContent}

-- a definite space of a magnitude of at most 2^30
abbrev pub IsKnownSpace : {axis : ℕ} → Space axis → Type 0
IsKnownSpace (Definite a) = IsUnits a
IsKnownSpace MinContent = Unit {0}
IsKnownSpace MaxContent = Unit {0}

-- a fixed min function of at least 0
abbrev pub IsFixed : Rule → Type 0
IsFixed r = IsLimit (fixed_least r.least)

-- the min function of each of these rules is at least 0, where it is fixed
abbrev pub HaveFixed : List Rule → Type 0
HaveFixed [] = Unit {0}
HaveFixed (r ∷ rest) = IsFixed r × HaveFixed rest

-- how a collapsed track is sized
abbrev pub collapsed_rule : Rule
collapsed_rule = record { least = least.Fixed (pos 0); most = most.Fixed (pos 0); collapsed = true }

-- the coordinate of a first track
abbrev pub IsStart : ℤ → Type 0
IsStart z = ((pos 0 -ℤ pos (2 ^ 32)) ≤ℤ z) × (z ≤ℤ pos (2 ^ 32))
