-- The lines that entries close, one after another, and the line that is open after them.
use Rattle.std.specs.Prelude.{List, [], ◌∷◌, ◌++◌}
use Rattle.track_text.specs.declared.entry.Entry.{Entry}
use Rattle.track_text.specs.declared.entry.Entry.TheVariants as entry
use Rattle.track_text.specs.Words.{Word}
use Rattle.track_text.specs.NameSets.{distinct}

-- the names of each line that entries close, where these stand on the first of them before; each name once
abbrev pub closed_by : List Word → List Entry → List (List Word)
closed_by line [] = []
closed_by line (entry.Track size ∷ entries) = distinct line ∷ closed_by [] entries
closed_by line (entry.Named name ∷ entries) = closed_by (line ++ name ∷ []) entries

-- the names of the line that is open after them, as often as they stand there
abbrev pub open_after : List Word → List Entry → List Word
open_after line [] = line
open_after line (entry.Track size ∷ entries) = open_after [] entries
open_after line (entry.Named name ∷ entries) = open_after (line ++ name ∷ []) entries
