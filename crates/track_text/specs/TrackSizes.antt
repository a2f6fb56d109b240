-- Track sizes (CSS Grid 2, 7.2.1).
use Rattle.std.specs.Prelude.{ℕ, ℤ, Bool, true, false, ◌&&◌, ◌||◌, List, [], ◌∷◌, if◌then◌else◌, Option, Some, None, codes}
use Rattle.std.specs.Option.{option_map}
use Rattle.std.specs.Str.{bytes_eq}
use Rattle.style_types.specs.declared.unit.Unit.{Unit}
use Rattle.track_text.specs.declared.side.Side.{Side}
use Rattle.track_text.specs.declared.side.Side.TheVariants as side
use Rattle.track_text.specs.declared.side.Track.{Track}
use Rattle.track_text.specs.Words.{Word, bind}
use Rattle.track_text.specs.Values.{ends_in, length_in, percentage_of, flex_of}

abbrev pub length_side : ℤ × Unit → Side
length_side length = side.Length length.0 length.1

-- a length, which may be relative and may be below zero where these say so, or a percentage
abbrev pub length_or_percentage : Bool → Bool → Word → Option Side
length_or_percentage relative below_zero word =
    if ends_in (codes "%") word then option_map side.Percent (percentage_of word)
    else option_map length_side (length_in relative below_zero word)

-- a breadth: `auto`, `min-content`, `max-content`, a factor with `fr`, a percentage, or a length of at least 0
abbrev pub breadth_of : Bool → Word → Option Side
breadth_of relative word =
    if bytes_eq word (codes "auto") then Some side.Auto
    else if bytes_eq word (codes "min-content") then Some side.MinContent
    else if bytes_eq word (codes "max-content") then Some side.MaxContent
    else if ends_in (codes "fr") word then option_map side.Flex (flex_of word)
    else length_or_percentage relative false word

-- a breadth alone has itself on both sides, a factor alone has `auto` as its least side
abbrev pub track_alone : Side → Track
track_alone (side.Flex factor) = record { least = side.Auto; most = side.Flex factor; fit = None }
track_alone b = record { least = b; most = b; fit = None }

-- the least side is no factor
abbrev pub minmax : Side → Side → Option Track
minmax (side.Flex factor) most = None
minmax least most = Some (record { least = least; most = most; fit = None })

-- after the word `minmax`: `(least, most)`
abbrev pub minmax_after : Bool → List Word → Option Track
minmax_after relative (opening ∷ least ∷ comma ∷ most ∷ close ∷ words) =
    if bytes_eq opening (codes "(") && (bytes_eq comma (codes ",") && bytes_eq close (codes ")")) then
    bind (breadth_of relative least) (λ least.
    bind (breadth_of relative most) (λ most.
    minmax least most))
    else None
minmax_after relative words = None

-- `fit-content(b)` is `minmax(auto, max-content)` with the cap b
abbrev pub fit_to : Side → Track
fit_to b = record { least = side.Auto; most = side.MaxContent; fit = Some b }

-- after the word `fit-content`: any length or percentage in brackets
abbrev pub fit_after : Bool → List Word → Option Track
fit_after relative (opening ∷ argument ∷ close ∷ words) =
    if bytes_eq opening (codes "(") && bytes_eq close (codes ")") then option_map fit_to (length_or_percentage relative true argument) else None
fit_after relative words = None

-- the track size that words begin with, and how many words it takes after its first
abbrev pub track_first : Bool → List Word → Option (Track × ℕ)
track_first relative [] = None
track_first relative (word ∷ words) =
    if bytes_eq word (codes "minmax") then option_map (λ track. (track, 5)) (minmax_after relative words)
    else if bytes_eq word (codes "fit-content") then option_map (λ track. (track, 3)) (fit_after relative words)
    else option_map (λ b. (track_alone b, 0)) (breadth_of relative word)

abbrev pub is_fixed_side : Side → Bool
is_fixed_side (side.Length px unit) = true
is_fixed_side (side.Percent thousandths) = true
is_fixed_side b = false

-- a track size that may stand in a list with an automatic repeat: a length, a percentage, or a `minmax` of which one
-- side at least is one (CSS Grid 2, 7.2.3.1)
abbrev pub is_fixed : Track → Bool
is_fixed track = is_fixed_side track.least || is_fixed_side track.most
