-- What a call of a ruler logs. All own rules.
use Rattle.std.specs.Prelude.{List, [], ◌∷◌, Option, Result, Ok, Err}
use Rattle.outside.specs.Told.{Stays, Adds}

-- an answer logs its one event, and an error none
abbrev pub Logs : {A T E : Type 0} → Option (List A) → Option (List A) → A → Result T E → Type 0
Logs before after event (Ok x) = Adds before after (event ∷ [])
Logs before after event (Err e) = Stays before after
