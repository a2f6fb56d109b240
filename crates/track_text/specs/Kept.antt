-- Entries as they are read: so many tracks of them, and each name of a line once; and those of parts.
use Rattle.std.specs.Prelude.{ℕ, zero, suc, Bool, false, true, ◌||◌, List, [], ◌∷◌, ◌++◌, if◌then◌else◌}
use Rattle.track_text.specs.declared.entry.Entry.{Entry}
use Rattle.track_text.specs.declared.entry.Entry.TheVariants as entry
use Rattle.track_text.specs.declared.entry.Part.{Part}
use Rattle.track_text.specs.declared.entry.Part.TheVariants as part
use Rattle.track_text.specs.Words.{Word}
use Rattle.track_text.specs.NameSets.{is_among}
use Rattle.track_text.specs.Repeats.{times}
use Rattle.track_text.specs.Templates.{all_fixed}

-- the entries before the first track past so many
abbrev pub trim : ℕ → List Entry → List Entry
trim count [] = []
trim count (entry.Named name ∷ entries) = entry.Named name ∷ trim count entries
trim zero (entry.Track size ∷ entries) = []
trim (suc count) (entry.Track size ∷ entries) = entry.Track size ∷ trim count entries

-- the entries without the names that stand before on the same line, where these stand on the first line already
abbrev pub thin : List Word → List Entry → List Entry
thin seen [] = []
thin seen (entry.Track size ∷ entries) = entry.Track size ∷ thin [] entries
thin seen (entry.Named name ∷ entries) = if is_among seen name then thin seen entries else entry.Named name ∷ thin (seen ++ name ∷ []) entries

abbrev pub is_written : Part → Bool
is_written (part.Written count body) = true
is_written (part.Automatic filling body) = false

-- the entries of the parts that are no automatic repeats
abbrev pub entries_of : List Part → List Entry
entries_of [] = []
entries_of (part.Written count body ∷ parts) = times count body ++ entries_of parts
entries_of (part.Automatic filling body ∷ parts) = entries_of parts

abbrev pub is_never : ℕ → Bool
is_never zero = true
is_never (suc count) = false

-- each track of the part may stand beside an automatic repeat, or the part is one
abbrev pub part_is_fixed : Part → Bool
part_is_fixed (part.Written count body) = is_never count || all_fixed body
part_is_fixed (part.Automatic filling body) = true
