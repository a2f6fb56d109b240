-- The values of the two templates (CSS Grid 2, 7.2 and 9).
use Rattle.std.specs.Prelude.{ℕ, Bool, true, false, ◌+◌, ◌&&◌, List, [], ◌∷◌, ◌++◌, length, map, take, if◌then◌else◌, Option, Some, None, codes}
use Rattle.std.specs.Option.{option_map}
use Rattle.std.specs.Str.{bytes_eq}
use Rattle.std.specs.List.{list_all}
use Rattle.style_types.specs.declared.unit.Unit.{Unit}
use Rattle.track_text.specs.declared.side.Track.{Track}
use Rattle.track_text.specs.declared.side.ReadRepeat.{ReadRepeat}
use Rattle.track_text.specs.declared.side.ReadList.{ReadList}
use Rattle.style_types.specs.declared.track.Template.{Template}
use Rattle.style_types.specs.declared.track.TrackFn.{TrackFn}
use Rattle.style_types.specs.declared.track.Template.TheVariants as template
use Rattle.track_text.specs.declared.entry.Entry.{Entry}
use Rattle.track_text.specs.declared.entry.Entry.TheVariants as entry
use Rattle.track_text.specs.declared.entry.Filling.{Filling}
use Rattle.track_text.specs.declared.entry.Filling.TheVariants as filling
use Rattle.track_text.specs.declared.entry.Part.{Part}
use Rattle.track_text.specs.declared.entry.Part.TheVariants as part
use Rattle.track_text.specs.declared.entry.Sets.{Sets}
use Rattle.track_text.specs.Words.{Word, bind, is_alone, all_of, up_to}
use Rattle.track_text.specs.TrackSizes.{is_fixed, track_first}
use Rattle.track_text.specs.Sides.{sizes_of, units_before, list_value, list_units}
use Rattle.track_text.specs.NameSets.{names_after, distinct}
use Rattle.track_text.specs.Repeats.{has_track, times, count_of, part_first}

-- ---- the tracks and lines of a list without an automatic repeat

abbrev pub tracks_of : List Entry → List Track
tracks_of [] = []
tracks_of (entry.Track size ∷ entries) = size ∷ tracks_of entries
tracks_of (entry.Named name ∷ entries) = tracks_of entries

abbrev pub onto_first_line : Word → List (List Word) → List (List Word)
onto_first_line name [] = (name ∷ []) ∷ []
onto_first_line name (names ∷ lines) = (name ∷ names) ∷ lines

-- the names of each line, from the one before the first track to the one after the last: sets that stand side by side
-- are one (own rule)
abbrev pub lines_of : List Entry → List (List Word)
lines_of [] = [] ∷ []
lines_of (entry.Track size ∷ entries) = [] ∷ lines_of entries
lines_of (entry.Named name ∷ entries) = onto_first_line name (lines_of entries)

-- at most 10,000 tracks are kept, and the names of their lines: those of the line after the last kept track with them
-- (own rule)
abbrev pub kept_tracks : List Entry → List Track
kept_tracks entries = take 10000 (tracks_of entries)

abbrev pub kept_names : List Entry → List (List Word)
kept_names entries = map distinct (take 10001 (lines_of entries))

-- ---- track lists

-- a track that is fixed, or a name
abbrev pub entry_is_fixed : Entry → Bool
entry_is_fixed (entry.Track size) = is_fixed size
entry_is_fixed (entry.Named name) = true

abbrev pub all_fixed : List Entry → Bool
all_fixed entries = list_all entry_is_fixed entries

-- the list has a track size
abbrev pub plain_list : List Entry → Option ReadList
plain_list entries =
    if has_track entries then Some (record { sizes = kept_tracks entries; names = kept_names entries; repeat = None })
    else None

-- an automatic repeat between two lists, in which each track size is fixed
abbrev pub is_fit : Filling → Bool
is_fit filling.Fill = false
is_fit filling.Fit = true

abbrev pub repeat_of : List Entry → Filling → List Entry → ReadRepeat
repeat_of front filling body = record { before = length (kept_tracks front); auto_fit = is_fit filling; sizes = kept_tracks body; names = kept_names body }

abbrev pub automatic_list : List Entry → Filling → List Entry → List Entry → Option ReadList
automatic_list front filling body back =
    if all_fixed front && (all_fixed body && all_fixed back) then Some (record {
      sizes = kept_tracks front ++ kept_tracks back;
      names = kept_names front ++ kept_names back;
      repeat = Some (repeat_of front filling body);
    })
    else None

-- the entries of parts among which is no automatic repeat; what stands so many times is written out (own rule)
abbrev pub written_out : List Part → Option (List Entry)
written_out [] = Some []
written_out (part.Written count body ∷ parts) = option_map (λ rest. times count body ++ rest) (written_out parts)
written_out (part.Automatic filling body ∷ parts) = None

-- the list of entries and the parts after them, of which one at most is an automatic repeat
abbrev pub list_of : List Entry → List Part → Option ReadList
list_of front [] = plain_list front
list_of front (part.Written count body ∷ parts) = list_of (front ++ times count body) parts
list_of front (part.Automatic filling body ∷ parts) = bind (written_out parts) (automatic_list front filling body)

-- a track list
abbrev pub track_list : Bool → List Word → Option ReadList
track_list relative words = bind (all_of (part_first relative) 0 words) (list_of [])

-- ---- subgrids

abbrev pub distinct_read : {A : Type 0} → List Word × A → List Word × A
distinct_read read = (distinct read.0, read.1)

-- a set of names that words begin with, and how many words it takes after its first
abbrev pub set_first : List Word → Option (List Word × ℕ)
set_first [] = None
set_first (word ∷ words) = if bytes_eq word (codes "[") then option_map distinct_read (names_after words) else None

abbrev pub sets_or_none : {A : Type 0} → List (List Word) × A → Option (List (List Word) × A)
sets_or_none read = elim read.0 [ [] ↦ None | set ∷ sets ↦ Some read ]

-- one set at least, up to the bracket that closes a repeat, and how many words are taken with that
abbrev pub sets_after : List Word → Option (List (List Word) × ℕ)
sets_after words = bind (up_to (codes ")") set_first 0 words) sets_or_none

-- sets that stand so many times, one time after another
abbrev pub sets_times : ℕ → List (List Word) → Sets
sets_times count sets = record { count = count; sets = sets }

-- after the word `repeat`: `(count, sets)`, and how many words that takes
abbrev pub set_repeat_after : List Word → Option (Sets × ℕ)
set_repeat_after (opening ∷ word ∷ comma ∷ words) =
    if bytes_eq opening (codes "(") && bytes_eq comma (codes ",") then
    bind (count_of word) (λ count.
    option_map (λ read. (sets_times count read.0, read.1 + 3)) (sets_after words))
    else None
set_repeat_after words = None

abbrev pub set_once : {A : Type 0} → List Word × A → Sets × A
set_once read = (sets_times 1 (read.0 ∷ []), read.1)

abbrev pub sets_first : List Word → Option (Sets × ℕ)
sets_first [] = None
sets_first (word ∷ words) =
    if bytes_eq word (codes "repeat") then set_repeat_after words
    else option_map set_once (set_first (word ∷ words))

-- all sets, written out
abbrev pub sets_of : List Sets → List (List Word)
sets_of [] = []
sets_of (part ∷ parts) = times part.count part.sets ++ sets_of parts

-- the sets after `subgrid`, each that of a line of its own, an empty one too; 20,001 are kept (CSS Grid 2, 9; the
-- number is an own rule)
abbrev pub subgrid_of : List Word → Option (List (List Word))
subgrid_of words = option_map (λ parts. take 20001 (sets_of parts)) (all_of sets_first 0 words)

-- ---- templates

-- a template, and the units of its lengths
abbrev pub ReadTemplate : Type 0
ReadTemplate = Template × List Unit

abbrev pub tracks_value : ReadList → ReadTemplate
tracks_value list = (template.Tracks (list_value list), list_units list)

abbrev pub subgrid_value : List (List Word) → ReadTemplate
subgrid_value names = (template.Subgrid names, [])

abbrev pub tracks_or_subgrid : Bool → List Word → Option ReadTemplate
tracks_or_subgrid relative [] = None
tracks_or_subgrid relative (word ∷ words) =
    if bytes_eq word (codes "subgrid") then option_map subgrid_value (subgrid_of words)
    else option_map tracks_value (track_list relative (word ∷ words))

-- the template that words stand for, with the units of its lengths: `none`, `subgrid` with sets of names, or a track
-- list
abbrev pub template_of : Bool → List Word → Option ReadTemplate
template_of relative words = if is_alone (codes "none") words then Some (template.Absent, []) else tracks_or_subgrid relative words

-- ---- track sizes alone

abbrev pub sizes_value : List Track → List TrackFn × List Unit
sizes_value tracks = (sizes_of tracks, units_before tracks [])

abbrev pub some_tracks : List Track → Option (List TrackFn × List Unit)
some_tracks [] = None
some_tracks (track ∷ tracks) = Some (sizes_value (track ∷ tracks))

-- one track size or more, with the units of their lengths: what `grid-auto-columns` and `grid-auto-rows` have (CSS
-- Grid 2, 7.6)
abbrev pub auto_tracks : Bool → List Word → Option (List TrackFn × List Unit)
auto_tracks relative words = bind (all_of (track_first relative) 0 words) some_tracks
