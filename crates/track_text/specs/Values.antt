-- Numbers with and without units, as the values of all properties have them.
use Rattle.std.specs.Prelude.{ℕ, ℤ, pos, ◌-◌, ◌==◌, Bool, List, length, take, drop, unsigned_abs, if◌then◌else◌, Option, None, codes}
use Rattle.std.specs.Option.{option_map}
use Rattle.std.specs.Str.{bytes_eq}
use Rattle.std.specs.List.{list_any}
use Rattle.lunit.specs.declared.number.NumberForm.{NumberForm}
use Rattle.lunit.specs.Decimals.{read_number, is_point}
use Rattle.lunit.specs.Forms.{lengths, zeros, percentages, factors, integers, relative_lengths}
use Rattle.style_types.specs.declared.unit.Unit.{Unit}
use Rattle.style_types.specs.declared.unit.Unit.TheVariants as unit
use Rattle.track_text.specs.Words.{Word}

-- whether lengths may be relative to a font size: in version 2 of the language (own rule)
abbrev pub is_relative : ℕ → Bool
is_relative version = version == 2

abbrev pub ends_in : List ℕ → Word → Bool
ends_in unit word = bytes_eq (drop (length word - length unit) word) unit

-- the word without its unit
abbrev pub before : List ℕ → Word → Word
before unit word = take (length word - length unit) word

-- a number of this form before the unit
abbrev pub measured : NumberForm → List ℕ → Word → Option ℤ
measured form unit word = if ends_in unit word then read_number form (before unit word) else None

-- px, and numbers with a relative unit, which may be below zero where this says so
abbrev pub px_form : Bool → NumberForm
px_form below_zero = record lengths { below_zero = below_zero }

abbrev pub relative_form : Bool → NumberForm
relative_form below_zero = record relative_lengths { below_zero = below_zero }

-- a length as it stands in a value, and its unit: one with a relative unit stands as 0
abbrev pub in_px : ℤ → ℤ × Unit
in_px units = (units, unit.Px)

abbrev pub in_em : ℤ → ℤ × Unit
in_em millionths = (pos 0, unit.Em millionths)

abbrev pub in_rem : ℤ → ℤ × Unit
in_rem millionths = (pos 0, unit.Rem millionths)

-- a number of value zero alone is a length of 0 px (CSS Values 4, 6)
abbrev pub zero_of : Word → Option (ℤ × Unit)
zero_of word = option_map in_px (read_number zeros word)

-- a number with `em`, or one of value zero alone
abbrev pub em_or_zero : Bool → Word → Option (ℤ × Unit)
em_or_zero below_zero word =
    if ends_in (codes "em") word then option_map in_em (read_number (relative_form below_zero) (before (codes "em") word))
    else zero_of word

-- a number with `rem` or `em` (CSS Values 4, 6.1), or one of value zero alone
abbrev pub relative_of : Bool → Word → Option (ℤ × Unit)
relative_of below_zero word =
    if ends_in (codes "rem") word then option_map in_rem (read_number (relative_form below_zero) (before (codes "rem") word))
    else em_or_zero below_zero word

-- a length without `px`, which may be relative where this says so
abbrev pub other_length : Bool → Bool → Word → Option (ℤ × Unit)
other_length relative below_zero word = if relative then relative_of below_zero word else zero_of word

-- a length, which may be relative and may be below zero where these say so: a number with `px`, or with `rem` or `em`,
-- or a number of value zero alone
abbrev pub length_in : Bool → Bool → Word → Option (ℤ × Unit)
length_in relative below_zero word =
    if ends_in (codes "px") word then option_map in_px (read_number (px_form below_zero) (before (codes "px") word))
    else other_length relative below_zero word

-- a percentage, in thousandths of a percent (CSS Values 4, 5.5)
abbrev pub percentage_of : Word → Option ℕ
percentage_of word = option_map unsigned_abs (measured percentages (codes "%") word)

-- a factor without a unit, in thousandths
abbrev pub factor_of : Word → Option ℕ
factor_of word = option_map unsigned_abs (read_number factors word)

-- a factor with `fr`, in thousandths (CSS Grid 2, 7.2.4)
abbrev pub flex_of : Word → Option ℕ
flex_of word = option_map unsigned_abs (measured factors (codes "fr") word)

-- an integer: an optional sign and digits, so a number without a point (CSS Values 4, 5.2)
abbrev pub integer_of : Word → Option ℤ
integer_of word = if list_any is_point word then None else read_number integers word
