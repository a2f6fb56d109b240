-- What a call of a source answers and takes. All own rules.
use Rattle.std.specs.Prelude.{◌≡◌, ℕ, ◌↔◌, List, [], take, Option, Some, None, Result, Ok, Err, ⊤}
use Rattle.outside.specs.Told.{Stays, Loses}

-- what is answered are the next bytes, at the front of the room, and an error takes none
abbrev pub Reads : {E : Type 0} → Option (List ℕ) → Option (List ℕ) → Result ℕ E → List ℕ → Type 0
Reads before after (Ok n) room = Loses before after (take n room)
Reads before after (Err e) room = Stays before after

-- 0 is answered exactly where no byte was left
abbrev pub IsZeroAtEnd : Option (List ℕ) → ℕ → Type 0
IsZeroAtEnd None n = ⊤
IsZeroAtEnd (Some xs) n = (n ≡ 0) ↔ (xs ≡ [])
