-- Sizes: keywords, percentages and lengths, and lists of them.
use Rattle.std.specs.Prelude.{ℤ, Bool, ◌&&◌, List, [], ◌∷◌, if◌then◌else◌, Option, Some, None, codes}
use Rattle.std.specs.Option.{option_map}
use Rattle.std.specs.Str.{bytes_eq}
use Rattle.style_types.specs.declared.unit.Unit.{Unit}
use Rattle.style_types.specs.declared.declared.DeclaredValue.{DeclaredValue}
use Rattle.style_types.specs.declared.value.Size.{Size}
use Rattle.style_types.specs.declared.value.Size.TheVariants as size
use Rattle.style_types.specs.declared.value.Value.TheVariants as value
use Rattle.track_text.specs.Words.{Word, bind, ended}
use Rattle.track_text.specs.Values.{ends_in, length_in, percentage_of}
use Rattle.value_text.specs.declared.size.Measured.{Measured}
use Rattle.value_text.specs.declared.size.SizeForm.{SizeForm}

abbrev pub plain_size : Size → Measured
plain_size s = record { size = s; unit = None }

-- the keyword that the form has
abbrev pub keyword_size : SizeForm → Word → Option Size
keyword_size form word =
    if form.auto && bytes_eq word (codes "auto") then Some size.Auto
    else if form.none && bytes_eq word (codes "none") then Some size.Absent
    else if form.normal && bytes_eq word (codes "normal") then Some size.Normal
    else if form.content && bytes_eq word (codes "content") then Some size.Content
    else None

abbrev pub length_size : ℤ × Unit → Measured
length_size length = record { size = size.Length length.0; unit = Some length.1 }

-- a percentage where the form has these, or a length, of at least 0 where the form says so
abbrev pub measured_size : Bool → SizeForm → Word → Option Measured
measured_size relative form word =
    if form.percent && ends_in (codes "%") word then option_map (λ t. plain_size (size.Percent t)) (percentage_of word)
    else option_map length_size (length_in relative form.below_zero word)

abbrev pub or_measured : Option Size → Option Measured → Option Measured
or_measured None measured = measured
or_measured (Some s) measured = Some (plain_size s)

-- the size that the word is in this form
unfoldable pub size_of : Bool → SizeForm → Word → Option Measured
size_of relative form word = or_measured (keyword_size form word) (measured_size relative form word)

-- the size as a declared value
abbrev pub units_of : Option Unit → List Unit
units_of None = []
units_of (Some unit) = unit ∷ []

abbrev pub size_value : Measured → DeclaredValue
size_value measured = record { value = value.Size measured.size; units = units_of measured.unit }

-- ---- lists of sizes

-- the first of the words as a size, and the words after it
abbrev pub size_first : Bool → SizeForm → List Word → Option (Measured × List Word)
size_first relative form [] = None
size_first relative form (word ∷ words) = option_map (λ measured. (measured, words)) (size_of relative form word)

-- the first of the words as a size, and the words after it; this size where no words are left
abbrev pub size_or : Bool → SizeForm → Measured → List Word → Option (Measured × List Word)
size_or relative form default [] = Some (default, [])
size_or relative form default (word ∷ words) = size_first relative form (word ∷ words)

-- the sizes, where no words are left after them
abbrev pub if_ended : {A : Type 0} → List Word → A → Option A
if_ended words x = if ended words then Some x else None

-- one size alone
abbrev pub one_size : Bool → SizeForm → List Word → Option Measured
one_size relative form words = bind (size_first relative form words) (λ read. if_ended read.1 read.0)

-- one size or two: the second is the first where it is missing
abbrev pub second_after : Bool → SizeForm → Measured → List Word → Option (Measured × Measured)
second_after relative form first words = bind (size_or relative form first words) (λ second. if_ended second.1 (first, second.0))

abbrev pub two_sizes : Bool → SizeForm → List Word → Option (Measured × Measured)
two_sizes relative form words = bind (size_first relative form words) (λ first. second_after relative form first.0 first.1)

-- one size to four, for the top, right, bottom and left side: the right and the bottom are the top where they are
-- missing, and the left is the right (CSS 2, 8.3)
abbrev pub Sides : Type 0
Sides = Measured × Measured × Measured × Measured

abbrev pub left_after : Bool → SizeForm → Measured → Measured → Measured → List Word → Option Sides
left_after relative form top right bottom words = bind (size_or relative form right words) (λ left. if_ended left.1 (top, right, bottom, left.0))

abbrev pub bottom_after : Bool → SizeForm → Measured → Measured → List Word → Option Sides
bottom_after relative form top right words = bind (size_or relative form top words) (λ bottom. left_after relative form top right bottom.0 bottom.1)

abbrev pub right_after : Bool → SizeForm → Measured → List Word → Option Sides
right_after relative form top words = bind (size_or relative form top words) (λ right. bottom_after relative form top right.0 right.1)

abbrev pub side_sizes : Bool → SizeForm → List Word → Option Sides
side_sizes relative form words = bind (size_first relative form words) (λ top. right_after relative form top.0 top.1)
