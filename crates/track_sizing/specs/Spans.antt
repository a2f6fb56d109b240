-- Items by the number of tracks that they span.
use Rattle.std.specs.Prelude.{ℕ, pos, Bool, not, ◌&&◌, List, int_lt}
use Rattle.std.specs.Ordering.{int_eq}
use Rattle.lunit.specs.declared.item.Item.{Item}
use Rattle.part_rules.specs.Tracks.{Track, span_length, crosses_flexible}

-- an item that spans so many tracks, of which none is flexible
abbrev pub is_of_span : List Track → ℕ → Item → Bool
is_of_span ts n i = int_eq (span_length i) (pos n) && not (crosses_flexible ts i)

-- an item that spans two tracks or more
abbrev pub is_wide : Item → Bool
is_wide i = int_lt (pos 1) (span_length i)
