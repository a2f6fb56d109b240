-- The lines of a text, and their faults.
use Rattle.std.specs.Prelude.{◌≡◌, refl, ℕ, ◌+◌, Bool, true, not, ◌&&◌, ◌||◌, ◌==◌, nat_lt, nat_le, if◌then◌else◌, List, [], ◌∷◌, length, take, Option, Some, None, position, option_map, codes}
use Rattle.std.specs.List.{list_any}
use Rattle.text_scan.specs.declared.line.Fault.{Fault}
use Rattle.text_scan.specs.declared.line.Line.{Line}

-- The byte that ends a line (own rule: a carriage return does not).
abbrev pub is_line_feed : ℕ → Bool
is_line_feed byte = byte == 10

-- A byte that may stand in a line: printable ASCII and the space (own rule).
abbrev pub is_printable : ℕ → Bool
is_printable byte = nat_le 32 byte && nat_le byte 126

-- The byte before the first of the lines, or in a line of its own where there is none.
abbrev pub onto_first : ℕ → List (List ℕ) → List (List ℕ)
onto_first byte [] = (byte ∷ []) ∷ []
onto_first byte (line ∷ lines) = (byte ∷ line) ∷ lines

-- The bytes of each line of a text, without its line feed. A line ends at a line feed or at the end of the
-- text; so an empty text has no line, and none stands after a last line feed (own rule).
abbrev pub split_lines : List ℕ → List (List ℕ)
split_lines [] = []
split_lines (byte ∷ bytes) = if is_line_feed byte then [] ∷ split_lines bytes else onto_first byte (split_lines bytes)

-- Whether bytes hold a line feed.
abbrev pub has_line_feed : List ℕ → Bool
has_line_feed bytes = list_any is_line_feed bytes

-- Whether the last of the bytes, if there is one, is a line feed: then they are whole lines.
abbrev pub ends_line : List ℕ → Bool
ends_line [] = true
ends_line (byte ∷ []) = is_line_feed byte
ends_line (byte ∷ next ∷ bytes) = ends_line (next ∷ bytes)

-- The whole lines of the bytes: what goes up to their last line feed, and nothing where they have none.
abbrev pub whole_lines : List ℕ → List ℕ
whole_lines [] = []
whole_lines (byte ∷ bytes) = if has_line_feed (byte ∷ bytes) then byte ∷ whole_lines bytes else []

-- Fault 1, `bad-byte`: at the first byte that is not from 32 to 126.
abbrev pub bad_byte : ℕ → List ℕ → Option Fault
bad_byte number bytes =
    option_map (λ index. record { number = 1; place = record { line = number; column = index + 1 } })
    (position (λ byte. not (is_printable byte)) bytes)

-- Fault 2, `line-too-long`: at column 65,537 of a line of more than 65,536 bytes.
abbrev pub too_long : ℕ → List ℕ → Option Fault
too_long number bytes = if nat_lt 65536 (length bytes) then Some (record { number = 2; place = record { line = number; column = 65537 } }) else None

-- In one line: the first fault has the lesser column, or at one column not the greater number.
abbrev pub comes_first : Fault → Fault → Bool
comes_first a b = nat_lt a.place.column b.place.column || (a.place.column == b.place.column && nat_le a.number b.number)

abbrev pub least_fault : Option Fault → Option Fault → Option Fault
least_fault None other = other
least_fault (Some fault) None = Some fault
least_fault (Some fault) (Some other) = if comes_first fault other then Some fault else Some other

-- The fault of the line of this number and these bytes: of its faults the one with the least place and, at
-- one place, the least number (own rule).
abbrev pub line_fault : ℕ → List ℕ → Option Fault
line_fault number bytes = least_fault (bad_byte number bytes) (too_long number bytes)

-- A line as it is read: its number, its first 65,536 bytes, and its fault.
abbrev pub line_of : ℕ → List ℕ → Line
line_of number bytes = record { number = number; bytes = take 65536 bytes; fault = line_fault number bytes }

-- Lines, numbered from the given number on.
abbrev pub numbered : ℕ → List (List ℕ) → List Line
numbered number [] = []
numbered number (bytes ∷ rest) = line_of number bytes ∷ numbered (number + 1) rest

-- The lines of a text whose first line has the given number.
abbrev pub lines_from : ℕ → List ℕ → List Line
lines_from number bytes = numbered number (split_lines bytes)

-- The lines of a whole text, counted from 1.
abbrev pub lines_of : List ℕ → List Line
lines_of bytes = lines_from 1 bytes

-- ---- examples, which hold by computation

no_lines : split_lines [] ≡ []
no_lines = refl

ended_line : split_lines (codes "ab\n") ≡ codes "ab" ∷ []
ended_line = refl

open_line : split_lines (codes "ab\n\ncd") ≡ codes "ab" ∷ [] ∷ codes "cd" ∷ []
open_line = refl

cut_line : whole_lines (codes "ab\n\ncd") ≡ codes "ab\n\n"
cut_line = refl

abbrev a_fault : ℕ → ℕ → ℕ → Option Fault
a_fault number line column = Some (record { number = number; place = record { line = line; column = column } })

good_line : line_fault 3 (codes "a ~") ≡ None
good_line = refl

delete_byte : line_fault 3 (97 ∷ 127 ∷ 9 ∷ []) ≡ a_fault 1 3 2
delete_byte = refl

carriage_return : lines_of (97 ∷ 13 ∷ 10 ∷ 98 ∷ []) ≡
    record { number = 1; bytes = 97 ∷ 13 ∷ []; fault = a_fault 1 1 2 } ∷ record { number = 2; bytes = 98 ∷ []; fault = None } ∷ []
carriage_return = refl
