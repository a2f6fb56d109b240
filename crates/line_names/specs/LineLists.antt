-- The lines of a name as bits (own rule).
use Rattle.std.specs.Prelude.{◌≡◌, ℕ, ◌-◌, ◌<◌, ◌≤◌, ◌/◌, ◌%◌, ◌==◌, ℤ, pos, negsuc, ◌+ℤ◌, ◌-ℤ◌, Bool, true, false, List, get_or}
use Rattle.std.specs.Int.{bit_at}
use Rattle.line_names.specs.Passing.{passing}
use Rattle.line_names.specs.declared.line_list.LinesIn.{LinesIn}

-- whether the bit at a place is set, in words of 64
abbrev pub has_bit : List ℕ → ℕ → Bool
has_bit words place = bit_at (get_or words (place / 64) 0) (place % 64) == 1

-- a place before the first has no bit
abbrev pub bit_of : List ℕ → ℤ → Bool
bit_of words (pos place) = has_bit words place
bit_of words (negsuc place) = false

-- whether the bit of a line is set, where the first bit is that of this line
abbrev pub is_in : List ℕ → ℤ → ℤ → Bool
is_in words first line = bit_of words (line -ℤ first)

-- the lines whose bits are set, of so many from the first one on
abbrev pub bits_in : List ℕ → ℤ → ℕ → List ℤ
bits_in words first count = passing (is_in words first) first count

-- a part of a list of lines: those whose bits are set, from one place to before another one
abbrev pub listed : LinesIn → List ℤ
listed l = passing (is_in l.words.now l.first) (l.first +ℤ pos l.start) (l.end - l.start)

-- the last of so many lines is held, and no line past it
pub record IsLineList (words : List ℕ) (count : ℕ) : Type 0 where
  pub last : 0 < count → has_bit words (count - 1) ≡ true
  pub clear : (place : ℕ) → count ≤ place → has_bit words place ≡ false
