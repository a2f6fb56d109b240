-- What a call of a sink answers and takes. All own rules.
use Rattle.std.specs.Prelude.{ℕ, ◌<◌, ◌≤◌, List, length, take, Option, Result, Ok, Err}
use Rattle.outside.specs.Told.{Stays, Adds}

-- what is answered was taken from the front of the piece, and an error takes nothing
abbrev pub Writes : {E : Type 0} → Option (List ℕ) → Option (List ℕ) → Result ℕ E → List ℕ → Type 0
Writes before after (Ok n) piece = Adds before after (take n piece)
Writes before after (Err e) piece = Stays before after

-- at most the piece, and at least one byte of one that is not empty
abbrev pub IsPartOf : ℕ → List ℕ → Type 0
IsPartOf n piece = (n ≤ length piece) × (0 < length piece → 0 < n)
