-- Which tracks the items of a group reach in a step: those that are affected and that one of them spans.
use Rattle.std.specs.Prelude.{◌≡◌, pos, Bool, true, List, [], ◌∷◌, Some, None, is_some, if◌then◌else◌}
use Rattle.std.specs.List.{list_any}
use Rattle.lunit.specs.declared.item.Item.{Item}
use Rattle.part_rules.specs.Lists.{zipped}
use Rattle.part_rules.specs.Tracks.{Track, affected_by, mark_endless, raised_limit}
use Rattle.part_rules.specs.declared.share.Share.{Share}
use Rattle.track_sizing.specs.declared.kinds.Affected.{Affected}
use Rattle.track_sizing.specs.Kinds.{affected_of}

-- a row that notes whether its track is reached: it has a room where it is
abbrev pub note_of : Bool → Share
note_of b = record { room = if b then Some (pos 0) else None; got = pos 0 }

abbrev pub is_noted : Share → Bool
is_noted s = is_some s.room

-- some item reaches the track
abbrev pub is_reached_by : Affected → List Item → Track → Bool
is_reached_by a items t = list_any (λ i. affected_by (affected_of a) i t) items

-- a note where a track passes the test, else as it was
abbrev pub noted_by : (Track → Bool) → Share → Track → Share
noted_by test s t = if test t then note_of true else s

-- the notes after one item
abbrev pub noted_for : Affected → List Track → List Share → Item → List Share
noted_for a ts notes i = zipped (noted_by (affected_by (affected_of a) i)) notes ts

-- the notes after all items
abbrev pub all_noted : Affected → List Item → List Track → List Share → List Share
all_noted a [] ts notes = notes
all_noted a (i ∷ rest) ts notes = all_noted a rest ts (noted_for a ts notes i)

-- a growth limit that is raised where that is noted
abbrev pub raised_where : Track → Share → Track
raised_where t s = if is_noted s then raised_limit t else t

-- a growth limit that is raised where that is noted, with the mark for the next step
abbrev pub marked_where : Track → Share → Track
marked_where t s = mark_endless t (raised_where t s)

-- a track that stays as it is where its growth limit is raised, and where that is marked
pub record Stays (t : Track) : Type 0 where
  pub raised : raised_limit t ≡ t
  pub marked : mark_endless t t ≡ t

-- each of these tracks stays as it is where its growth limit is raised
abbrev pub AllRaised : List Track → Type 0
AllRaised [] = Unit {0}
AllRaised (t ∷ ts) = (raised_limit t ≡ t) × AllRaised ts

-- each of these tracks stays as it is
abbrev pub AllStay : List Track → Type 0
AllStay [] = Unit {0}
AllStay (t ∷ ts) = Stays t × AllStay ts
