-- The words of track sizes and of the two templates (CSS Grid 2, 7.2 and 9).
use Rattle.std.specs.Prelude.{ℕ, pos, ◌+◌, ◌==◌, nat_lt, Bool, true, false, ◌&&◌, List, [], ◌∷◌, ◌++◌, drop, take, if◌then◌else◌, Option, Some, None, codes}
use Rattle.std.specs.Cmp.Lexicographic.{pointwise}
use Rattle.std.specs.Ordering.{int_eq}
use Rattle.std.specs.Str.{bytes_eq}
use Rattle.style_types.specs.declared.track.Breadth.{Breadth}
use Rattle.style_types.specs.declared.track.Breadth.TheVariants as breadth
use Rattle.style_types.specs.declared.track.Repeat.{Repeat}
use Rattle.style_types.specs.declared.track.Template.{Template}
use Rattle.style_types.specs.declared.track.Template.TheVariants as template
use Rattle.style_types.specs.declared.track.TrackFn.{TrackFn}
use Rattle.style_types.specs.declared.unit.Unit.{Unit}
use Rattle.style_types.specs.declared.unit.Unit.TheVariants as unit
use Rattle.track_text.specs.declared.side.Side.{Side}
use Rattle.track_text.specs.declared.side.Side.TheVariants as side
use Rattle.track_text.specs.declared.side.Track.{Track}
use Rattle.track_text.specs.Words.{Word}
use Rattle.doc_writer.specs.Numbers.{integer, factor, percentage, length_word}

-- ---- lengths with their units
-- The units of a value are those of its lengths, in their order; a length without a unit is in px. Each step takes the
-- units of its lengths, and gives what it makes of them beside the units that are left.

abbrev pub first_unit : List Unit → Unit
first_unit [] = unit.Px
first_unit (u ∷ units) = u

-- the unit of the next length, and those after it
abbrev pub next_unit : List Unit → Unit × List Unit
next_unit units = (first_unit units, drop 1 units)

abbrev pub side_with : Breadth → List Unit → Side × List Unit
side_with (breadth.Length px) units = (side.Length px (first_unit units), drop 1 units)
side_with (breadth.Percent thousandths) units = (side.Percent thousandths, units)
side_with breadth.Auto units = (side.Auto, units)
side_with breadth.MinContent units = (side.MinContent, units)
side_with breadth.MaxContent units = (side.MaxContent, units)
side_with (breadth.Flex thousandths) units = (side.Flex thousandths, units)

abbrev pub fit_with : Option Breadth → List Unit → Option Side × List Unit
fit_with None units = (None, units)
fit_with (Some b) units = let s = side_with b units in (Some s.0, s.1)

abbrev pub track_of : Side → Side → Option Side → Track
track_of least most fit = record { least = least; most = most; fit = fit }

abbrev pub track_with : TrackFn → List Unit → Track × List Unit
track_with size units =
    let least = side_with size.least units in
    let most = side_with size.most least.1 in
    let fit = fit_with size.fit most.1 in
    (track_of least.0 most.0 fit.0, fit.1)

abbrev pub tracks_with : List TrackFn → List Unit → List Track × List Unit
tracks_with [] units = ([], units)
tracks_with (size ∷ sizes) units =
    let first = track_with size units in
    let rest = tracks_with sizes first.1 in
    (first.0 ∷ rest.0, rest.1)

-- ---- track sizes

abbrev pub side_word : Side → Word
side_word (side.Length px unit) = length_word px unit
side_word (side.Percent thousandths) = percentage thousandths
side_word side.Auto = codes "auto"
side_word side.MinContent = codes "min-content"
side_word side.MaxContent = codes "max-content"
side_word (side.Flex thousandths) = factor thousandths ++ codes "fr"

abbrev pub same_unit : Unit → Unit → Bool
same_unit unit.Px unit.Px = true
same_unit (unit.Em a) (unit.Em b) = int_eq a b
same_unit (unit.Rem a) (unit.Rem b) = int_eq a b
same_unit a b = false

abbrev pub same_side : Side → Side → Bool
same_side (side.Length px unit) (side.Length other of_other) = int_eq px other && same_unit unit of_other
same_side (side.Percent a) (side.Percent b) = a == b
same_side side.Auto side.Auto = true
same_side side.MinContent side.MinContent = true
same_side side.MaxContent side.MaxContent = true
same_side (side.Flex a) (side.Flex b) = a == b
same_side a b = false

abbrev pub same_fit : Option Side → Option Side → Bool
same_fit None None = true
same_fit (Some a) (Some b) = same_side a b
same_fit a b = false

abbrev pub same_track : Track → Track → Bool
same_track a b = same_side a.least b.least && (same_side a.most b.most && same_fit a.fit b.fit)

-- one breadth where both functions are equal, and a factor alone for `minmax(auto, Nfr)`; else both functions
abbrev pub is_alone : Side → Side → Bool
is_alone side.Auto (side.Flex thousandths) = true
is_alone least most = same_side least most

abbrev pub minmax_words : Side → Side → List Word
minmax_words least most = codes "minmax" ∷ codes "(" ∷ side_word least ∷ codes "," ∷ side_word most ∷ codes ")" ∷ []

abbrev pub fit_words : Side → List Word
fit_words argument = codes "fit-content" ∷ codes "(" ∷ side_word argument ∷ codes ")" ∷ []

abbrev pub sides_words : Side → Side → Option Side → List Word
sides_words least most (Some argument) = fit_words argument
sides_words least most None = if is_alone least most then side_word most ∷ [] else minmax_words least most

abbrev pub track_words : Track → List Word
track_words track = sides_words track.least track.most track.fit

abbrev pub each_track : List Track → List Word
each_track [] = []
each_track (track ∷ tracks) = track_words track ++ each_track tracks

-- ---- sets of names, and repeats

abbrev pub set_words : List Word → List Word
set_words names = codes "[" ∷ (names ++ codes "]" ∷ [])

-- an empty set is left out
abbrev pub shown_set : List Word → List Word
shown_set [] = []
shown_set (name ∷ names) = set_words (name ∷ names)

-- what stands before the body of a repeat
abbrev pub repeat_words : Word → List Word
repeat_words often = codes "repeat" ∷ codes "(" ∷ often ∷ codes "," ∷ []

-- what stands once is written as it is, and what stands more often as a repeat
abbrev pub repeated : ℕ → List Word → List Word
repeated count words = if count == 1 then words else repeat_words (integer (pos count)) ++ (words ++ codes ")" ∷ [])

-- a track that stands so often in a repeat may stand there once more: at most 10,000 times (own rule)
abbrev pub has_room : ℕ → Bool
has_room count = nat_lt count 10000

abbrev pub is_empty : {A : Type 0} → List A → Bool
is_empty [] = true
is_empty (x ∷ xs) = false

abbrev pub first_set : List (List Word) → List Word
first_set [] = []
first_set (names ∷ lines) = names

-- the next track goes on with a run of equal ones: no name stands before it
abbrev pub goes_on : Track → ℕ → List Word → Track → Bool
goes_on track count names next = has_room count && (is_empty names && same_track track next)

-- a track that stands so often already, and the tracks after it, with the sets of their lines; the first set is that of the
-- line after the track. A run of equal tracks is a repeat; a longer run than a repeat can have goes on with the next
abbrev pub run_words : Track → ℕ → List (List Word) → List Track → List Word
run_words track count lines [] = repeated count (track_words track) ++ shown_set (first_set lines)
run_words track count lines (next ∷ tracks) =
    if goes_on track count (first_set lines) next then run_words track (count + 1) (drop 1 lines) tracks
    else repeated count (track_words track) ++ (shown_set (first_set lines) ++ run_words next 1 (drop 1 lines) tracks)

-- tracks with the sets of their lines, of which the first stands before the first track
abbrev pub tracks_words : List (List Word) → List Track → List Word
tracks_words lines [] = shown_set (first_set lines)
tracks_words lines (track ∷ tracks) = shown_set (first_set lines) ++ run_words track 1 (drop 1 lines) tracks

-- tracks with the sets of their lines, written without repeats
abbrev pub plain_words : List (List Word) → List Track → List Word
plain_words lines [] = shown_set (first_set lines)
plain_words lines (track ∷ tracks) = shown_set (first_set lines) ++ (track_words track ++ plain_words (drop 1 lines) tracks)

-- ---- templates

abbrev pub filling_word : Bool → Word
filling_word true = codes "auto-fit"
filling_word false = codes "auto-fill"

-- an automatic repeat, with its own tracks written out
abbrev pub automatic_words : Repeat → List Track → List Word
automatic_words r tracks = repeat_words (filling_word r.auto_fit) ++ (plain_words r.names tracks ++ codes ")" ∷ [])

-- the tracks before an automatic repeat, the repeat, and the tracks after it
abbrev pub around_words : List (List Word) → List Track → Repeat → List Track → List Word
around_words names tracks r body =
    tracks_words (take (r.before + 1) names) (take r.before tracks)
    ++ (automatic_words r body ++ tracks_words (drop (r.before + 1) names) (drop r.before tracks))

abbrev pub list_words : List (List Word) → Option Repeat → List Track × List Unit → List Word
list_words names None read = tracks_words names read.0
list_words names (Some r) read = around_words names read.0 r (tracks_with r.sizes read.1).0

-- the set of a line that stands so often already, and the sets after it, an empty one too
abbrev pub set_runs : List Word → ℕ → List (List Word) → List Word
set_runs names count [] = repeated count (set_words names)
set_runs names count (next ∷ lines) =
    if has_room count && pointwise bytes_eq names next then set_runs names (count + 1) lines
    else repeated count (set_words names) ++ set_runs next 1 lines

abbrev pub sets_words : List (List Word) → List Word
sets_words [] = []
sets_words (names ∷ lines) = set_runs names 1 lines

abbrev pub template_words : Template → List Unit → List Word
template_words template.Absent units = codes "none" ∷ []
template_words (template.Subgrid lines) units = codes "subgrid" ∷ sets_words lines
template_words (template.Tracks list) units = list_words list.names list.repeat (tracks_with list.sizes units)

-- one track size after another
abbrev pub sizes_words : List TrackFn → List Unit → List Word
sizes_words sizes units = each_track (tracks_with sizes units).0
