-- The decimal that is printed of a number of units.
use Rattle.std.specs.Prelude.{◌≡◌, ℕ, ℤ, pos, negsuc, ◌+◌, ◌*◌, ◌/◌, ◌%◌, ◌^◌, ◌==◌, Bool, true, false, unsigned_abs, List, [], ◌∷◌, ◌++◌, map, if◌then◌else◌, Some, decimal}
use Rattle.std.specs.List.{list_all}
use Rattle.lunit.specs.Decimals.{Decimal, number_of}

-- the six digits after the point of a number of millionths
abbrev pub six_digits : ℕ → List ℕ
six_digits millionths = map (λ place. 48 + millionths / place % 10) (100000 ∷ 10000 ∷ 1000 ∷ 100 ∷ 10 ∷ 1 ∷ [])

abbrev pub is_zero_digit : ℕ → Bool
is_zero_digit digit = digit == 48

-- the digits up to the last one that is not 0
abbrev pub without_last_zeros : List ℕ → List ℕ
without_last_zeros [] = []
without_last_zeros (digit ∷ rest) = if list_all is_zero_digit (digit ∷ rest) then [] else digit ∷ without_last_zeros rest

-- digits after a point, and no point where there are none
abbrev pub after_point : List ℕ → List ℕ
after_point [] = []
after_point (digit ∷ rest) = 46 ∷ digit ∷ rest

-- the decimal fraction of so many sixty-fourths; one is 15,625 millionths
abbrev pub fraction_text : ℕ → List ℕ
fraction_text parts = after_point (without_last_zeros (six_digits (parts * 15625)))

abbrev pub is_negative : ℤ → Bool
is_negative (pos n) = false
is_negative (negsuc n) = true

abbrev pub minus_of : ℤ → List ℕ
minus_of units = if is_negative units then 45 ∷ [] else []

-- the units as a decimal of px: `-` where below zero, the whole px, and where some is left a point and the exact
-- decimals without zeros at their end (own rule)
abbrev pub printed : ℤ → List ℕ
printed units = minus_of units ++ decimal (unsigned_abs units / 64) ++ fraction_text (unsigned_abs units % 64)

-- the text is a decimal, and as an exact number it is units / 64
pub record IsExactly (units : ℤ) (text : List ℕ) : Type 0 where
  pub number : Decimal
  pub reads : number_of text ≡ Some number
  pub size : number.numerator * 64 ≡ unsigned_abs units * 10 ^ number.places
  pub below_zero : number.negative ≡ is_negative units
