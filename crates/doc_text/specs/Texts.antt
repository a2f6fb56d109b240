-- The text of a line, word by word from its left end.
use Rattle.std.specs.Prelude.{ℕ, Bool, true, false, not, List, [], ◌∷◌, take, drop, length, if◌then◌else◌, Option, Some, None, Result, Ok, Err}
use Rattle.std.specs.Str.{bytes_eq}
use Rattle.std.specs.List.{position_or_len}
use Rattle.text_scan.specs.declared.line.Fault.{Fault}
use Rattle.text_scan.specs.declared.line.Line.{Line}
use Rattle.text_scan.specs.declared.line.Place.{Place}
use Rattle.text_scan.specs.Tokens.{is_space, before_comment, front_length}
use Rattle.track_text.specs.Gives.{fault_at}
use Rattle.value_text.specs.Declarations.{place_after}

abbrev pub Word : Type 0
Word = List ℕ

-- what is left of a line: its bytes, and the place of the first of them
pub record Text : Type 0 where
  pub at : Place
  pub bytes : List ℕ

abbrev pub text_at : Place → List ℕ → Text
text_at at bytes = record { at = at; bytes = bytes }

-- the place just past the last byte
abbrev pub end_place : Text → Place
end_place text = place_after text.at (length text.bytes)

-- the text after so many of its bytes
unfoldable pub past : ℕ → Text → Text
past n text = text_at (place_after text.at n) (drop n text.bytes)

-- the text up to so many of its bytes
abbrev pub up_to : ℕ → Text → Text
up_to n text = text_at text.at (take n text.bytes)

-- how many spaces the bytes begin with
abbrev pub spaces_of : List ℕ → ℕ
spaces_of bytes = position_or_len (λ byte. not (is_space byte)) bytes

-- the text without the spaces that it begins with
abbrev pub unindented : Text → Text
unindented text = past (spaces_of text.bytes) text

-- the first token of the text, its place, and the text after it. Where no token is left the word is empty and stands at the
-- end of the text
unfoldable pub first_word : Text → Word
first_word text = take (front_length (unindented text).bytes) (unindented text).bytes

unfoldable pub word_place : Text → Place
word_place text = (unindented text).at

unfoldable pub after_word : Text → Text
after_word text = past (front_length (unindented text).bytes) (unindented text)

abbrev pub is_word : Word → Text → Bool
is_word word text = bytes_eq (first_word text) word

abbrev pub is_empty : Word → Bool
is_empty [] = true
is_empty (byte ∷ bytes) = false

-- no token is left
abbrev pub is_ended : Text → Bool
is_ended text = is_empty (first_word text)

-- ---- the text of a line: its comment is left out, and the spaces at its end count for nothing

abbrev pub onto_end : ℕ → List ℕ → List ℕ
onto_end byte [] = if is_space byte then [] else byte ∷ []
onto_end byte (next ∷ bytes) = byte ∷ next ∷ bytes

abbrev pub trimmed : List ℕ → List ℕ
trimmed [] = []
trimmed (byte ∷ bytes) = onto_end byte (trimmed bytes)

unfoldable pub text_of : Line → Text
text_of line = text_at (record { line = line.number; column = 1 }) (trimmed (before_comment line.bytes))

-- ---- one part of a line after another: the first fault counts

infixl 10 ◌>>=◌
abbrev pub ◌>>=◌ : {A B : Type 0} → Result A Fault → (A → Result B Fault) → Result B Fault
(Ok x) >>= next = next x
(Err fault) >>= next = Err fault

-- a token at this place that is due: what it stands for, and the text after it; or this fault at it
abbrev pub due_at : {A : Type 0} → ℕ → Place → Text → Option A → Result (A × Text) Fault
due_at number at rest None = Err (fault_at number at)
due_at number at rest (Some value) = Ok (value, rest)

-- a part that is one token: what the token stands for, and the text after it; or this fault at the token, or where one is
-- missing at the end of the text
abbrev pub due : {A : Type 0} → ℕ → Text → Option A → Result (A × Text) Fault
due number text value = due_at number (word_place text) (after_word text) value

-- nothing is left; 9, `bad-value`, at what is (own rule)
abbrev pub end_of : Text → Result (Unit {0}) Fault
end_of text = if is_ended text then Ok tt else Err (fault_at 9 (word_place text))
