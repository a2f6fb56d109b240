-- Where a name stands in a list of names with their cells.
use Rattle.std.specs.Prelude.{ℕ, ◌+◌, List, [], ◌∷◌, if◌then◌else◌, Option, Some, None}
use Rattle.std.specs.Str.{bytes_eq}
use Rattle.track_text.specs.Words.{Word}
use Rattle.value_text.specs.declared.found.Found.{Found}

-- the place of the name, counted from this number on
abbrev pub place_from : ℕ → Word → List Found → Option ℕ
place_from n name [] = None
place_from n name (f ∷ found) = if bytes_eq f.name name then Some n else place_from (n + 1) name found
