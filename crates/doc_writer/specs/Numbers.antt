-- Numbers as they are written: exact decimals without zeros at their end, and without a point where they are whole (own
-- rule).
use Rattle.std.specs.Prelude.{◌≡◌, refl, ℕ, ℤ, pos, negsuc, ◌*◌, ◌/◌, ◌%◌, unsigned_abs, List, ◌++◌, codes, decimal}
use Rattle.std.specs.Fmt.{digits}
use Rattle.lunit.specs.Printed.{six_digits, without_last_zeros, after_point, minus_of}
use Rattle.style_types.specs.declared.unit.Unit.{Unit}
use Rattle.style_types.specs.declared.unit.Unit.TheVariants as unit
use Rattle.track_text.specs.Words.{Word}

-- the decimals of so many parts of which `scale` are one, a whole number of millionths
abbrev pub decimals : ℕ → ℕ → List ℕ
decimals scale parts = after_point (without_last_zeros (six_digits (parts * (1000000 / scale))))

-- the exact decimal of so many parts of which `scale` are one
unfoldable pub number : ℕ → ℤ → Word
number scale parts = minus_of parts ++ decimal (unsigned_abs parts / scale) ++ decimals scale (unsigned_abs parts % scale)

-- a whole number
abbrev pub integer : ℤ → Word
integer z = number 1 z

-- px without a unit, of so many units of a sixty-fourth
abbrev pub px_number : ℤ → Word
px_number units = number 64 units

-- a factor in thousandths
abbrev pub factor : ℕ → Word
factor thousandths = number 1000 (pos thousandths)

-- a percentage in thousandths of a percent (CSS Values 4, 5.5)
abbrev pub percentage : ℕ → Word
percentage thousandths = factor thousandths ++ codes "%"

-- a length by its unit: px in sixty-fourths, and `em` and `rem` in millionths (CSS Values 4, 6)
abbrev pub length_word : ℤ → Unit → Word
length_word px unit.Px = number 64 px ++ codes "px"
length_word px (unit.Em millionths) = number 1000000 millionths ++ codes "em"
length_word px (unit.Rem millionths) = number 1000000 millionths ++ codes "rem"

-- ---- examples, which hold by computation

whole_px : length_word (pos 6400) unit.Px ≡ codes "100px"
unfolding number digits
whole_px = refl

one_unit_below_zero : length_word (negsuc 0) unit.Px ≡ codes "-0.015625px"
unfolding number digits
one_unit_below_zero = refl

millionths_of_em : length_word (pos 0) (unit.Em (pos 2500001)) ≡ codes "2.500001em"
unfolding number digits
millionths_of_em = refl

most_rem_below_zero : length_word (pos 0) (unit.Rem (negsuc 9999999999)) ≡ codes "-10000rem"
unfolding number digits
most_rem_below_zero = refl

half_a_percent : percentage 500 ≡ codes "0.5%"
unfolding number digits
half_a_percent = refl

integer_below_zero : integer (negsuc 11) ≡ codes "-12"
unfolding number digits
integer_below_zero = refl
