-- The names and numbers of a line.
use Rattle.std.specs.Prelude.{ℕ, ℤ, pos, int_le, unsigned_abs, if◌then◌else◌, Option, Some, None, Result, codes}
use Rattle.text_scan.specs.declared.line.Fault.{Fault}
use Rattle.lunit.specs.Decimals.{read_number}
use Rattle.lunit.specs.Forms.{lengths, sizes}
use Rattle.lunit.specs.Names.{is_name}
use Rattle.lunit.specs.declared.number.NumberForm.{NumberForm}
use Rattle.track_text.specs.Words.{bind}
use Rattle.track_text.specs.Values.{ends_in, before, integer_of}
use Rattle.doc_text.specs.Texts.{Word, Text, first_word, due}

-- a name of at most 58 bytes
abbrev pub name_of : Word → Option Word
name_of word = if is_name word then Some word else None

-- a number of px of this form, in units, with or without `px`
abbrev pub px_of_word : NumberForm → Word → Option ℤ
px_of_word form word = if ends_in (codes "px") word then read_number form (before (codes "px") word) else read_number form word

-- a size of a viewport or a leaf: from 0 to 1,048,576 (own rule)
unfoldable pub size_of_word : Word → Option ℤ
size_of_word word = px_of_word sizes word

-- a position along an axis: of a magnitude of at most 1,048,576 (own rule)
unfoldable pub position_of_word : Word → Option ℤ
position_of_word word = px_of_word lengths word

abbrev pub at_least_zero : ℤ → Option ℕ
at_least_zero z = if int_le (pos 0) z then Some (unsigned_abs z) else None

-- an index, from 0 to 1,000,000 (own rule)
abbrev pub index_of : Word → Option ℕ
index_of word = bind (integer_of word) at_least_zero

abbrev pub at_least_one : ℤ → Option ℕ
at_least_one z = if int_le (pos 1) z then Some (unsigned_abs z) else None

-- how many edits are taken back or made again, from 1 to 1,000,000 (own rule)
abbrev pub times_of : Word → Option ℕ
times_of word = bind (integer_of word) at_least_one

-- 5, `bad-name`, where no name comes first; 9, `bad-value`, where no such number does
abbrev pub name_first : Text → Result (Word × Text) Fault
name_first text = due 5 text (name_of (first_word text))

abbrev pub size_first : Text → Result (ℤ × Text) Fault
size_first text = due 9 text (size_of_word (first_word text))

abbrev pub position_first : Text → Result (ℤ × Text) Fault
position_first text = due 9 text (position_of_word (first_word text))

abbrev pub index_first : Text → Result (ℕ × Text) Fault
index_first text = due 9 text (index_of (first_word text))

abbrev pub times_first : Text → Result (ℕ × Text) Fault
times_first text = due 9 text (times_of (first_word text))
