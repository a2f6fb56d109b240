-- Values of templates, worked by hand. They hold by computation.
use Rattle.std.specs.Prelude.{◌≡◌, refl, ℕ, ℤ, pos, neg_ℤ, Bool, true, false, List, [], ◌∷◌, Option, Some, None, codes}
use Rattle.style_types.specs.declared.track.Breadth.{Breadth}
use Rattle.style_types.specs.declared.track.Breadth.TheVariants as breadth
use Rattle.style_types.specs.declared.track.TrackFn.{TrackFn}
use Rattle.style_types.specs.declared.track.Template.{Template}
use Rattle.style_types.specs.declared.track.Template.TheVariants as template
use Rattle.track_text.specs.Words.{Word, words_of}
use Rattle.style_types.specs.declared.unit.Unit.{Unit}
use Rattle.style_types.specs.declared.unit.Unit.TheVariants as unit
use Rattle.track_text.specs.Templates.{template_of}

abbrev value : Option (Template × List Unit) → Option Template
value None = None
value (Some read) = Some read.0

abbrev units : Option (Template × List Unit) → Option (List Unit)
units None = None
units (Some read) = Some read.1

-- the value of a text of version 1, and one of version 2 with the units of its lengths
abbrev read : List ℕ → Option Template
read text = value (template_of false (words_of text))

abbrev relative : List ℕ → Option Template
relative text = value (template_of true (words_of text))

abbrev units_of : List ℕ → Option (List Unit)
units_of text = units (template_of true (words_of text))

-- a breadth alone, but for a factor
abbrev track_alone : Breadth → TrackFn
track_alone b = record { least = b; most = b; fit = None }

abbrev length : ℤ → TrackFn
length units = track_alone (breadth.Length units)

abbrev sides : Breadth → Breadth → TrackFn
sides least most = record { least = least; most = most; fit = None }

abbrev fit : Breadth → TrackFn
fit argument = record { least = breadth.Auto; most = breadth.MaxContent; fit = Some argument }

abbrev list : List TrackFn → List (List Word) → Option Template
list tracks names = Some (template.Tracks (record { sizes = tracks; names = names; repeat = None }))

abbrev one : TrackFn → Option Template
one track = list (track ∷ []) ([] ∷ [] ∷ [])

abbrev a : Word
a = codes "a"

abbrev b : Word
b = codes "b"

abbrev c : Word
c = codes "c"

-- ---- the three kinds of values

absent : read (codes "none") ≡ Some template.Absent
absent = refl

nothing : read (codes "") ≡ None
nothing = refl

absent_with_a_track : read (codes "none 1px") ≡ None
absent_with_a_track = refl

subgrid_alone : read (codes "subgrid") ≡ Some (template.Subgrid [])
subgrid_alone = refl

subgrid_with_sets : read (codes "subgrid [a] [] [b b c]") ≡ Some (template.Subgrid ((a ∷ []) ∷ [] ∷ (b ∷ c ∷ []) ∷ []))
subgrid_with_sets = refl

subgrid_with_a_repeat : read (codes "subgrid repeat(2, [a][b]) [c]") ≡ Some (template.Subgrid ((a ∷ []) ∷ (b ∷ []) ∷ (a ∷ []) ∷ (b ∷ []) ∷ (c ∷ []) ∷ []))
subgrid_with_a_repeat = refl

subgrid_with_an_empty_repeat : read (codes "subgrid repeat(2, )") ≡ None
subgrid_with_an_empty_repeat = refl

subgrid_with_a_track : read (codes "subgrid [a] 1px") ≡ None
subgrid_with_a_track = refl

subgrid_after_a_track : read (codes "1px subgrid") ≡ None
subgrid_after_a_track = refl

-- ---- track sizes

one_length : read (codes "10px") ≡ one (length (pos 640))
one_length = refl

keywords : read (codes "auto min-content max-content")
    ≡ list (track_alone breadth.Auto ∷ track_alone breadth.MinContent ∷ track_alone breadth.MaxContent ∷ []) ([] ∷ [] ∷ [] ∷ [] ∷ [])
keywords = refl

percentage : read (codes "12.5%") ≡ one (track_alone (breadth.Percent 12500))
percentage = refl

fraction : read (codes "1.5fr") ≡ one (sides breadth.Auto (breadth.Flex 1500))
fraction = refl

two_sides : read (codes "minmax(10px,1fr)") ≡ one (sides (breadth.Length (pos 640)) (breadth.Flex 1000))
two_sides = refl

fraction_as_least : read (codes "minmax(1fr, 10px)") ≡ None
fraction_as_least = refl

comma_missing : read (codes "minmax(1px 2px)") ≡ None
comma_missing = refl

bracket_missing : read (codes "minmax(1px, 2px") ≡ None
bracket_missing = refl

three_sides : read (codes "minmax(1px, 2px, 3px)") ≡ None
three_sides = refl

fit_to_a_length : read (codes "fit-content(20px)") ≡ one (fit (breadth.Length (pos 1280)))
fit_to_a_length = refl

fit_to_a_length_below_zero : read (codes "fit-content( -2px )") ≡ one (fit (breadth.Length (neg_ℤ (pos 128))))
fit_to_a_length_below_zero = refl

fit_to_a_percentage : read (codes "fit-content(50%)") ≡ one (fit (breadth.Percent 50000))
fit_to_a_percentage = refl

fit_to_a_keyword : read (codes "fit-content(auto)") ≡ None
fit_to_a_keyword = refl

fit_in_two_sides : read (codes "minmax(1px, fit-content(2px))") ≡ None
fit_in_two_sides = refl

-- ---- numbers

sign_and_point : read (codes "+1.px .5px -0px")
    ≡ list (length (pos 64) ∷ length (pos 32) ∷ length (pos 0) ∷ []) ([] ∷ [] ∷ [] ∷ [] ∷ [])
sign_and_point = refl

point_alone : read (codes ".px") ≡ None
point_alone = refl

size_below_zero : read (codes "-0.001px") ≡ None
size_below_zero = refl

truncated_size : read (codes "0.999px") ≡ one (length (pos 63))
truncated_size = refl

zeros_alone : read (codes "0 -0.00") ≡ list (length (pos 0) ∷ length (pos 0) ∷ []) ([] ∷ [] ∷ [] ∷ [])
zeros_alone = refl

unit_missing : read (codes "1") ≡ None
unit_missing = refl

unit_apart : read (codes "1 px") ≡ None
unit_apart = refl

longest_length : read (codes "1048576px") ≡ one (length (pos 67108864))
longest_length = refl

too_long_by_little : read (codes "1048576.00000001px") ≡ None
too_long_by_little = refl

greatest_percentage : read (codes "1000%") ≡ one (track_alone (breadth.Percent 1000000))
greatest_percentage = refl

too_great_a_percentage : read (codes "1000.0000001%") ≡ None
too_great_a_percentage = refl

percentage_below_zero : read (codes "-1%") ≡ None
percentage_below_zero = refl

greatest_fraction : read (codes "10000fr") ≡ one (sides breadth.Auto (breadth.Flex 10000000))
greatest_fraction = refl

too_great_a_fraction : read (codes "10000.5fr") ≡ None
too_great_a_fraction = refl

upper_case_unit : read (codes "1PX") ≡ None
upper_case_unit = refl

-- ---- sets of names

sets : read (codes "[a b] 1px [c]") ≡ list (length (pos 64) ∷ []) ((a ∷ b ∷ []) ∷ (c ∷ []) ∷ [])
sets = refl

sets_side_by_side : read (codes "[a] [b] 1px") ≡ list (length (pos 64) ∷ []) ((a ∷ b ∷ []) ∷ [] ∷ [])
sets_side_by_side = refl

names_once : read (codes "[a b] [b a c a] 1px []") ≡ list (length (pos 64) ∷ []) ((a ∷ b ∷ c ∷ []) ∷ [] ∷ [])
names_once = refl

spaces_missing : read (codes "1px[a]2px") ≡ list (length (pos 64) ∷ length (pos 128) ∷ []) ([] ∷ (a ∷ []) ∷ [] ∷ [])
spaces_missing = refl

set_alone : read (codes "[a]") ≡ None
set_alone = refl

set_in_a_set : read (codes "[a [b]] 1px") ≡ None
set_in_a_set = refl

set_not_closed : read (codes "1px [a") ≡ None
set_not_closed = refl

reserved_name : read (codes "[span] 1px") ≡ None
reserved_name = refl

allowed_names : read (codes "[none subgrid repeat] 1px") ≡ list (length (pos 64) ∷ []) ((codes "none" ∷ codes "subgrid" ∷ codes "repeat" ∷ []) ∷ [] ∷ [])
allowed_names = refl

digit_before_a_name : read (codes "[1a] 1px") ≡ None
digit_before_a_name = refl

-- ---- repeats

names_at_both_ends : read (codes "repeat(2, [a] 1px [b])")
    ≡ list (length (pos 64) ∷ length (pos 64) ∷ []) ((a ∷ []) ∷ (b ∷ a ∷ []) ∷ (b ∷ []) ∷ [])
names_at_both_ends = refl

names_beside : read (codes "[b] repeat(+1, [a] 1px) [c]") ≡ list (length (pos 64) ∷ []) ((b ∷ a ∷ []) ∷ (c ∷ []) ∷ [])
names_beside = refl

no_times : read (codes "repeat(0, 1px)") ≡ None
no_times = refl

times_below_zero : read (codes "repeat(-1, 1px)") ≡ None
times_below_zero = refl

too_often : read (codes "repeat(10001, 1px)") ≡ None
too_often = refl

point_in_a_count : read (codes "repeat(2.0, 1px)") ≡ None
point_in_a_count = refl

repeat_without_a_track : read (codes "1px repeat(2, [a])") ≡ None
repeat_without_a_track = refl

repeat_in_a_repeat : read (codes "repeat(2, repeat(2, 1px))") ≡ None
repeat_in_a_repeat = refl

repeat_not_closed : read (codes "repeat(2, 1px") ≡ None
repeat_not_closed = refl

text_after : read (codes "repeat(2, 1px))") ≡ None
text_after = refl

-- ---- automatic repeats

abbrev around : ℕ → Bool → List TrackFn → List (List Word) → List TrackFn → List (List Word) → Option Template
around before auto_fit body body_names tracks names = Some (template.Tracks (record {
  sizes = tracks;
  names = names;
  repeat = Some (record { before = before; auto_fit = auto_fit; sizes = body; names = body_names });
}))

filled : read (codes "[a] 1px repeat(auto-fill, [b] 2px [c]) [a] 3px")
    ≡ around 1 false (length (pos 128) ∷ []) ((b ∷ []) ∷ (c ∷ []) ∷ []) (length (pos 64) ∷ length (pos 192) ∷ []) ((a ∷ []) ∷ [] ∷ (a ∷ []) ∷ [] ∷ [])
filled = refl

fitted : read (codes "repeat(auto-fit, 10% minmax(1px, auto))")
    ≡ around 0 true (track_alone (breadth.Percent 10000) ∷ sides (breadth.Length (pos 64)) breadth.Auto ∷ []) ([] ∷ [] ∷ [] ∷ []) [] ([] ∷ [] ∷ [])
fitted = refl

repeats_around : read (codes "repeat(2, 1px) repeat(auto-fill, 2px) repeat(1, [a] 3px)")
    ≡ around 2 false (length (pos 128) ∷ []) ([] ∷ [] ∷ []) (length (pos 64) ∷ length (pos 64) ∷ length (pos 192) ∷ []) ([] ∷ [] ∷ [] ∷ (a ∷ []) ∷ [] ∷ [])
repeats_around = refl

auto_beside : read (codes "auto repeat(auto-fill, 1px)") ≡ None
auto_beside = refl

fraction_behind : read (codes "repeat(auto-fill, 1px) 1fr") ≡ None
fraction_behind = refl

auto_within : read (codes "repeat(auto-fill, 1px auto)") ≡ None
auto_within = refl

fit_within : read (codes "repeat(auto-fill, fit-content(1px))") ≡ None
fit_within = refl

most_is_a_length : read (codes "repeat(auto-fill, minmax(min-content, 1px))")
    ≡ around 0 false (sides breadth.MinContent (breadth.Length (pos 64)) ∷ []) ([] ∷ [] ∷ []) [] ([] ∷ [] ∷ [])
most_is_a_length = refl

two_automatic_repeats : read (codes "repeat(auto-fill, 1px) repeat(auto-fit, 1px)") ≡ None
two_automatic_repeats = refl

automatic_without_a_track : read (codes "repeat(auto-fill, [a])") ≡ None
automatic_without_a_track = refl

-- ---- units

relative_in_version_1 : read (codes "1em") ≡ None
relative_in_version_1 = refl

relative_stand_as_0 : relative (codes "2em minmax(.5rem, 3px)") ≡
    list (length (pos 0) ∷ sides (breadth.Length (pos 0)) (breadth.Length (pos 192)) ∷ []) ([] ∷ [] ∷ [] ∷ [])
relative_stand_as_0 = refl

-- a breadth alone stands on both sides, and has two units
units_in_order : units_of (codes "2em minmax(.5rem, 3px) 10% fit-content(-1em) 0")
    ≡ Some (unit.Em (pos 2000000) ∷ unit.Em (pos 2000000) ∷ unit.Rem (pos 500000) ∷ unit.Px ∷ unit.Em (neg_ℤ (pos 1000000)) ∷ unit.Px ∷ unit.Px ∷ [])
units_in_order = refl

units_of_a_repeat_last : units_of (codes "repeat(2, 1em) repeat(auto-fill, minmax(1px, 2em)) 3rem")
    ≡ Some
    (unit.Em (pos 1000000) ∷ unit.Em (pos 1000000) ∷ unit.Em (pos 1000000) ∷ unit.Em (pos 1000000) ∷ unit.Rem (pos 3000000) ∷
    unit.Rem (pos 3000000) ∷ unit.Px ∷ unit.Em (pos 2000000) ∷ [])
units_of_a_repeat_last = refl

zero_em : units_of (codes "0em") ≡ Some (unit.Em (pos 0) ∷ unit.Em (pos 0) ∷ [])
zero_em = refl

millionths_truncated : units_of (codes "0.9999999em") ≡ Some (unit.Em (pos 999999) ∷ unit.Em (pos 999999) ∷ [])
millionths_truncated = refl

most_em : units_of (codes "10000em") ≡ Some (unit.Em (pos 10000000000) ∷ unit.Em (pos 10000000000) ∷ [])
most_em = refl

too_much_em : relative (codes "10000.0001em") ≡ None
too_much_em = refl

em_below_zero : relative (codes "-1em") ≡ None
em_below_zero = refl
