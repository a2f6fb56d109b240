-- What stands in a track list, and repeats of it (CSS Grid 2, 7.2.3).
use Rattle.std.specs.Prelude.{ℕ, ℤ, pos, negsuc, Bool, true, false, ◌+◌, ◌&&◌, nat_le, List, [], ◌∷◌, ◌++◌, map, replicate, if◌then◌else◌, Option, Some, None, codes}
use Rattle.std.specs.Option.{option_map}
use Rattle.std.specs.Str.{bytes_eq}
use Rattle.std.specs.List.{list_any}
use Rattle.track_text.specs.declared.side.Track.{Track}
use Rattle.track_text.specs.declared.entry.Entry.{Entry}
use Rattle.track_text.specs.declared.entry.Entry.TheVariants as entry
use Rattle.track_text.specs.declared.entry.Filling.TheVariants as filling
use Rattle.track_text.specs.declared.entry.Often.{Often}
use Rattle.track_text.specs.declared.entry.Often.TheVariants as often
use Rattle.track_text.specs.declared.entry.Part.{Part}
use Rattle.track_text.specs.declared.entry.Part.TheVariants as part
use Rattle.track_text.specs.Words.{Word, bind, up_to}
use Rattle.track_text.specs.Values.{integer_of}
use Rattle.track_text.specs.TrackSizes.{track_first}
use Rattle.track_text.specs.NameSets.{names_after}

abbrev pub is_track : Entry → Bool
is_track (entry.Track size) = true
is_track (entry.Named name) = false

-- one track size stands in the list
abbrev pub has_track : List Entry → Bool
has_track entries = list_any is_track entries

-- lists one after another
abbrev pub joined : {A : Type 0} → List (List A) → List A
joined [] = []
joined (xs ∷ rest) = xs ++ joined rest

-- the list, so many times one after another
abbrev pub times : {A : Type 0} → ℕ → List A → List A
times count xs = joined (replicate count xs)

abbrev pub named : {A : Type 0} → List Word × A → List Entry × A
named read = (map entry.Named read.0, read.1)

abbrev pub one_track : {A : Type 0} → Track × A → List Entry × A
one_track read = (entry.Track read.0 ∷ [], read.1)

-- a track size or a set of names that words begin with, and how many words it takes after its first
abbrev pub entry_first : Bool → List Word → Option (List Entry × ℕ)
entry_first relative [] = None
entry_first relative (word ∷ words) =
    if bytes_eq word (codes "[") then option_map named (names_after words)
    else option_map one_track (track_first relative (word ∷ words))

-- what is read, one after another
abbrev pub joined_read : {A B : Type 0} → List (List A) × B → List A × B
joined_read read = (joined read.0, read.1)

-- what a repeat holds: track sizes, one at least, and sets of names, no repeat
abbrev pub body_or_none : {A : Type 0} → List (List Entry) × A → Option (List Entry × A)
body_or_none read = if has_track (joined read.0) then Some (joined read.0, read.1) else None

-- the body of a repeat up to the bracket that closes it, and how many words are taken with that
abbrev pub body_after : Bool → List Word → Option (List Entry × ℕ)
body_after relative words = bind (up_to (codes ")") (entry_first relative) 0 words) body_or_none

-- how often a repeat stands: from 1 to 10,000 times (own rule)
abbrev pub is_count : ℕ → Bool
is_count n = nat_le 1 n && nat_le n 10000

abbrev pub count_or_none : ℤ → Option ℕ
count_or_none (pos n) = if is_count n then Some n else None
count_or_none (negsuc n) = None

abbrev pub count_of : Word → Option ℕ
count_of word = bind (integer_of word) count_or_none

-- the first argument of a repeat: a number of times, `auto-fill` or `auto-fit`
abbrev pub often_of : Word → Option Often
often_of word =
    if bytes_eq word (codes "auto-fill") then Some (often.Automatic filling.Fill)
    else if bytes_eq word (codes "auto-fit") then Some (often.Automatic filling.Fit)
    else option_map often.Times (count_of word)

-- the body so often
abbrev pub part_of : Often → List Entry → Part
part_of (often.Times count) body = part.Written count body
part_of (often.Automatic filling) body = part.Automatic filling body

-- after the word `repeat`: `(count, body)`, and how many words that takes
abbrev pub repeat_after : Bool → List Word → Option (Part × ℕ)
repeat_after relative (opening ∷ word ∷ comma ∷ words) =
    if bytes_eq opening (codes "(") && bytes_eq comma (codes ",") then
    bind (often_of word) (λ often.
    option_map (λ body. (part_of often body.0, body.1 + 3)) (body_after relative words))
    else None
repeat_after relative words = None

-- a track size or a set of names is a part that stands once
abbrev pub once : {A : Type 0} → List Entry × A → Part × A
once read = (part.Written 1 read.0, read.1)

-- the part of a track list that words begin with, and how many words it takes after its first
abbrev pub part_first : Bool → List Word → Option (Part × ℕ)
part_first relative [] = None
part_first relative (word ∷ words) =
    if bytes_eq word (codes "repeat") then repeat_after relative words
    else option_map once (entry_first relative (word ∷ words))
