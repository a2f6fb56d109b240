-- The words of a value: the bytes of each of its tokens, in order.
use Rattle.std.specs.Prelude.{ℕ, zero, suc, Bool, true, false, ◌+◌, ◌&&◌, nat_le, length, List, [], ◌∷◌, map, drop, slice_range, if◌then◌else◌, Option, Some, None}
use Rattle.std.specs.Option.{option_map}
use Rattle.std.specs.Str.{bytes_eq}
use Rattle.text_scan.specs.declared.token.Token.{Token}
use Rattle.text_scan.specs.Tokens.{tokens_from}

abbrev pub Word : Type 0
Word = List ℕ

abbrev pub word_at : List ℕ → Token → Word
word_at bytes token = slice_range bytes token.start token.end

-- the words of a value's text
abbrev pub words_of : List ℕ → List Word
words_of text = map (word_at text) (tokens_from 0 text)

-- one step after another, where each may have no answer
abbrev pub bind : {A B : Type 0} → Option A → (A → Option B) → Option B
bind None next = None
bind (Some x) next = next x

-- no words are left
abbrev pub ended : List Word → Bool
ended [] = true
ended (word ∷ words) = false

-- this word stands alone
abbrev pub is_alone : Word → List Word → Bool
is_alone due (word ∷ []) = bytes_eq word due
is_alone due words = false

-- a token stands within the bytes
abbrev pub fits : List ℕ → Token → Bool
fits bytes token = nat_le token.start token.end && nat_le token.end (length bytes)

-- the first of these words is this one
abbrev pub begins_with : Word → List Word → Bool
begins_with due [] = false
begins_with due (word ∷ words) = bytes_eq word due

-- ---- forms
-- A form reads what words begin with. It gives what they stand for, and how many words it takes after its first.

abbrev pub Form : Type 0 → Type 0
Form A = List Word → Option (A × ℕ)

abbrev pub with_first : {A : Type 0} → A → List A → List A
with_first x xs = x ∷ xs

abbrev pub with_first_taken : {A : Type 0} → A → List A × ℕ → List A × ℕ
with_first_taken x read = (x ∷ read.0, read.1 + 1)

abbrev pub one_more_taken : {A : Type 0} → List A × ℕ → List A × ℕ
one_more_taken read = (read.0, read.1 + 1)

-- the words after those that a form takes, beside what these stand for
abbrev pub past : {A : Type 0} → List Word → A × ℕ → A × List Word
past words read = (read.0, drop read.1 words)

unfoldable pub front : {A : Type 0} → Form A → List Word → Option (A × List Word)
front form [] = None
front form (word ∷ words) = option_map (past words) (form (word ∷ words))

-- what the words stand for after so many of them, all of them read by the form, one after another
abbrev pub all_of : {A : Type 0} → Form A → ℕ → List Word → Option (List A)
all_of form taken [] = Some []
all_of form (suc taken) (word ∷ words) = all_of form taken words
all_of form zero (word ∷ words) = bind (form (word ∷ words)) (λ read. option_map (with_first read.0) (all_of form read.1 words))

-- what the words stand for as far as the word that closes, and how many words are taken up to and with that word
abbrev pub up_to : {A : Type 0} → Word → Form A → ℕ → List Word → Option (List A × ℕ)
up_to close form taken [] = None
up_to close form (suc taken) (word ∷ words) = option_map one_more_taken (up_to close form taken words)
up_to close form zero (word ∷ words) =
    if bytes_eq word close then Some ([], 1)
    else bind (form (word ∷ words)) (λ read. option_map (with_first_taken read.0) (up_to close form read.1 words))

-- what the words stand for as far as the word that closes, with the words that are left
unfoldable pub rest_up_to : {A : Type 0} → Word → Form A → List Word → Option (List A × List Word)
rest_up_to close form words = option_map (past words) (up_to close form 0 words)

unfoldable pub all_from : {A : Type 0} → Form A → List Word → Option (List A)
all_from form words = all_of form 0 words
