-- Words that a value may not hold because what they ask for is not supported (own rule).
use Rattle.std.specs.Prelude.{ℕ, Bool, true, false, not, ◌&&◌, ◌||◌, List, [], ◌∷◌, if◌then◌else◌, codes}
use Rattle.std.specs.Str.{bytes_eq}
use Rattle.std.specs.List.{list_any}
use Rattle.lunit.specs.Decimals.{is_digit, is_number, is_point, is_sign}
use Rattle.track_text.specs.Words.{Word, begins_with}
use Rattle.track_text.specs.Values.{ends_in, before}

-- the words outside square brackets, and the brackets that open; these do not nest: each `[` goes up to the next `]`
abbrev pub outside : Bool → List Word → List Word
outside within [] = []
outside true (word ∷ words) = outside (not (bytes_eq word (codes "]"))) words
outside false (word ∷ words) = word ∷ outside (bytes_eq word (codes "[")) words

abbrev pub is_one_of : List Word → Word → Bool
is_one_of due word = list_any (bytes_eq word) due

-- the keywords that every property has
abbrev pub wide_keywords : List Word
wide_keywords = codes "inherit" ∷ codes "initial" ∷ codes "unset" ∷ codes "revert" ∷ []

abbrev pub functions : List Word
functions = codes "calc" ∷ codes "min" ∷ codes "max" ∷ codes "clamp" ∷ []

-- the units of lengths that are not supported; in version 2 `em` and `rem` are
abbrev pub other_units : List Word
other_units =
    codes "ex" ∷ codes "ch" ∷ codes "vw" ∷ codes "vh" ∷ codes "vmin" ∷ codes "vmax" ∷ codes "cm" ∷ codes "mm" ∷ codes "in" ∷ codes "pt" ∷
    codes "pc" ∷ []

abbrev pub units : Bool → List Word
units true = other_units
units false = codes "em" ∷ codes "rem" ∷ other_units

abbrev pub has_unit : Word → Word → Bool
has_unit word unit = ends_in unit word && is_number (before unit word)

-- a byte that numbers have: a sign, a digit or a point
abbrev pub in_number : ℕ → Bool
in_number byte = is_sign byte || (is_digit byte || is_point byte)

abbrev pub begins_number : Word → Bool
begins_number [] = false
begins_number (byte ∷ bytes) = in_number byte

-- a number with one of the units
abbrev pub is_measured : Bool → Word → Bool
is_measured relative word = list_any (has_unit word) (units relative)

-- a word that no property has, before these words
abbrev pub is_unsupported_before : Bool → Word → List Word → Bool
is_unsupported_before relative word words =
    is_one_of wide_keywords word || (is_measured relative word || (is_one_of functions word && begins_with (codes "(") words))

-- among the words is one that no property has
abbrev pub some_unsupported : Bool → List Word → Bool
some_unsupported relative [] = false
some_unsupported relative (word ∷ words) = is_unsupported_before relative word words || some_unsupported relative words

abbrev pub automatic_counts : List Word
automatic_counts = codes "auto-fill" ∷ codes "auto-fit" ∷ []

-- among the words after the first `subgrid` is `auto-fill` or `auto-fit`
abbrev pub repeats_subgrid : List Word → Bool
repeats_subgrid [] = false
repeats_subgrid (word ∷ words) = if bytes_eq word (codes "subgrid") then list_any (is_one_of automatic_counts) words else repeats_subgrid words

abbrev pub is_masonry : Word → Bool
is_masonry word = bytes_eq word (codes "masonry")

-- among the words outside brackets is one that no template has
abbrev pub unsupported_in_template : Bool → List Word → Bool
unsupported_in_template relative words = some_unsupported relative words || (list_any is_masonry words || repeats_subgrid words)

-- the value of a template holds an unsupported word
abbrev pub is_unsupported : Bool → List Word → Bool
is_unsupported relative words = unsupported_in_template relative (outside false words)
