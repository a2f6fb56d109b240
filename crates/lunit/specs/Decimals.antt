-- Numbers in text: exact decimals, and what is read of them.
use Rattle.std.specs.Prelude.{ℕ, ℤ, pos, neg_ℤ, ◌+◌, ◌-◌, ◌*◌, ◌/◌, ◌^◌, ◌≡◌, Bool, true, false, not, ◌&&◌, ◌||◌, ◌==◌, nat_lt, List, [], ◌∷◌, ◌++◌, length, take, drop, if◌then◌else◌, Option, Some, None, Result, Ok, Err}
use Rattle.std.specs.List.{list_all, position_or_len}
use Rattle.std.specs.Option.{is_none}
use Rattle.lunit.specs.Forms.{lengths}
use Rattle.lunit.specs.Names.{between}
use Rattle.lunit.specs.declared.errors.BadNumber.{BadNumber}
use Rattle.lunit.specs.declared.number.NumberForm.{NumberForm}

-- the number numerator / 10^places, below zero where negative
pub record Decimal : Type 0 where
  pub negative : Bool
  pub numerator : ℕ
  pub places : ℕ

abbrev pub is_digit : ℕ → Bool
is_digit byte = between 48 57 byte

abbrev pub all_digits : List ℕ → Bool
all_digits digits = list_all is_digit digits

-- the number that digits write: each counts by its place
abbrev pub digits_number : List ℕ → ℕ
digits_number [] = 0
digits_number (digit ∷ rest) = (digit - 48) * 10 ^ length rest + digits_number rest

abbrev pub is_sign : ℕ → Bool
is_sign byte = byte == 43 || byte == 45

abbrev pub is_point : ℕ → Bool
is_point byte = byte == 46

-- the text begins with `-`
abbrev pub has_minus : List ℕ → Bool
has_minus [] = false
has_minus (byte ∷ bytes) = byte == 45

-- the text after its sign, where it has one
abbrev pub without_sign : List ℕ → List ℕ
without_sign [] = []
without_sign (byte ∷ bytes) = if is_sign byte then bytes else byte ∷ bytes

-- the text up to its first point, and the text after that
abbrev pub whole_part : List ℕ → List ℕ
whole_part text = take (position_or_len is_point text) text

abbrev pub decimal_part : List ℕ → List ℕ
decimal_part text = drop (position_or_len is_point text + 1) text

-- these are the parts of a number: digits alone, and one at least (own rule)
abbrev pub are_parts : List ℕ → List ℕ → Bool
are_parts whole decimals = (all_digits whole && all_digits decimals) && nat_lt 0 (length whole + length decimals)

-- the digits before and after the point as one number, over a power of ten
abbrev pub decimal_of : Bool → List ℕ → List ℕ → Decimal
decimal_of negative whole decimals = record { negative = negative; numerator = digits_number (whole ++ decimals); places = length decimals }

abbrev pub decimal_or_none : Bool → List ℕ → List ℕ → Option Decimal
decimal_or_none negative whole decimals = if are_parts whole decimals then Some (decimal_of negative whole decimals) else None

-- the exact number that a text without its sign is: digits, with a point before, between or after them, not the point
-- alone (own rule)
abbrev pub unsigned_number_of : Bool → List ℕ → Option Decimal
unsigned_number_of negative text = decimal_or_none negative (whole_part text) (decimal_part text)

-- the exact number that a text is, where it is one (own rule)
abbrev pub number_of : List ℕ → Option Decimal
number_of text = unsigned_number_of (has_minus text) (without_sign text)

-- the text is a number without a unit, of any size
abbrev pub is_number : List ℕ → Bool
is_number text = not (is_none (number_of text))

-- the number is below zero: `-0` is not
abbrev pub is_below_zero : Decimal → Bool
is_below_zero d = d.negative && nat_lt 0 d.numerator

-- the magnitude of the number is above so much
abbrev pub passes : ℕ → Decimal → Bool
passes most d = nat_lt (most * 10 ^ d.places) d.numerator

-- the number is one that the form allows; this is asked of the exact number (own rule)
abbrev pub is_allowed : NumberForm → Decimal → Bool
is_allowed form d = not (passes form.most d) && (form.below_zero || not (is_below_zero d))

abbrev pub signed : Bool → ℕ → ℤ
signed negative size = if negative then neg_ℤ (pos size) else pos size

-- the number taken so many times, truncated toward zero (own rule)
abbrev pub truncated : ℕ → Decimal → ℤ
truncated scale d = signed d.negative (d.numerator * scale / 10 ^ d.places)

-- what a form reads of a text
abbrev pub read_allowed : NumberForm → Option Decimal → Option ℤ
read_allowed form None = None
read_allowed form (Some d) = if is_allowed form d then Some (truncated form.scale d) else None

abbrev pub read_number : NumberForm → List ℕ → Option ℤ
read_number form text = read_allowed form (number_of text)

abbrev pub length_or_bad : Option ℤ → Result ℤ BadNumber
length_or_bad None = Err (record {})
length_or_bad (Some units) = Ok units

abbrev pub read_units : List ℕ → Result ℤ BadNumber
read_units text = length_or_bad (read_number lengths text)

-- a scale: a number of parts of one of which a millionth is a whole number
abbrev pub IsScale : ℕ → Type 0
IsScale scale = scale * (1000000 / scale) ≡ 1000000
