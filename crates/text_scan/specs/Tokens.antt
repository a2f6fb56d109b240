-- The tokens of a line.
use Rattle.std.specs.Prelude.{◌≡◌, refl, ℕ, ◌+◌, ◌<◌, ◌≤◌, ◌↔◌, ◌⊎◌, Bool, true, false, not, ◌&&◌, ◌||◌, ◌==◌, is_none, if◌then◌else◌, List, [], ◌∷◌, length, slice_index, Contains, AllPairs, codes}
use Rattle.std.specs.List.{before_first, list_any, list_all, position_or_len}
use Rattle.text_scan.specs.declared.line.Line.{Line}
use Rattle.text_scan.specs.declared.token.Token.{Token}

abbrev pub is_space : ℕ → Bool
is_space byte = byte == 32

-- The marks, each of which is a token of its own (own rule).
abbrev pub is_mark : ℕ → Bool
is_mark byte = list_any (λ mark. byte == mark) (codes "{}()[]:;,/")

-- What ends a word: a space or a mark.
abbrev pub is_separator : ℕ → Bool
is_separator byte = is_space byte || is_mark byte

abbrev pub is_comment_mark : ℕ → Bool
is_comment_mark byte = byte == 35

-- A line without its comment, which goes from the first `#` to the end, also inside quotes (own rule).
abbrev pub before_comment : List ℕ → List ℕ
before_comment bytes = before_first is_comment_mark bytes

-- Whether a word goes on with the first of these bytes.
abbrev pub word_goes_on : List ℕ → Bool
word_goes_on [] = false
word_goes_on (byte ∷ bytes) = not (is_separator byte)

abbrev pub token_at : ℕ → ℕ → Token
token_at start end = record { start = start; end = end }

-- A byte of a word before the tokens after it: it is the first byte of a word that goes on, or a word alone.
abbrev pub word_from : ℕ → Bool → List Token → List Token
word_from at goes_on [] = token_at at (at + 1) ∷ []
word_from at true (token ∷ tokens) = token_at at token.end ∷ tokens
word_from at false (token ∷ tokens) = token_at at (at + 1) ∷ token ∷ tokens

-- The tokens of the bytes that stand from an index on: each mark, and each longest run of bytes that are neither
-- spaces nor marks, in order.
abbrev pub tokens_from : ℕ → List ℕ → List Token
tokens_from at [] = []
tokens_from at (byte ∷ bytes) =
    if is_separator byte then (if is_mark byte then token_at at (at + 1) ∷ tokens_from (at + 1) bytes else tokens_from (at + 1) bytes)
    else word_from at (word_goes_on bytes) (tokens_from (at + 1) bytes)

-- ---- the same by what a token is, whatever the order in which tokens are found

-- A token that is one mark.
pub record IsMarkToken (bytes : List ℕ) (token : Token) : Type 0 where
  pub within : token.start < length bytes
  pub mark : is_mark (slice_index bytes token.start) ≡ true
  pub one : token.end ≡ token.start + 1

-- A token that is a longest run of bytes that are neither spaces nor marks.
pub record IsWordToken (bytes : List ℕ) (token : Token) : Type 0 where
  pub some : token.start < token.end
  pub within : token.end ≤ length bytes
  pub run : (k : ℕ) → token.start ≤ k → k < token.end → is_separator (slice_index bytes k) ≡ false
  pub before : (k : ℕ) → k + 1 ≡ token.start → is_separator (slice_index bytes k) ≡ true
  pub after : token.end < length bytes → is_separator (slice_index bytes token.end) ≡ true

abbrev pub IsToken : List ℕ → Token → Type 0
IsToken bytes token = IsMarkToken bytes token ⊎ IsWordToken bytes token

-- These are all tokens of the bytes, in order, and no others.
pub record AreTokens (bytes : List ℕ) (tokens : List Token) : Type 0 where
  pub each : (token : Token) → Contains tokens token ↔ IsToken bytes token
  pub ordered : AllPairs (λ a b. a.end ≤ b.start) tokens

-- The length of the token that the bytes begin with, or 0 where they begin with a space.
abbrev pub front_length : List ℕ → ℕ
front_length [] = 0
front_length (byte ∷ bytes) = if is_mark byte then 1 else position_or_len is_separator (byte ∷ bytes)

-- The tokens of a line's bytes, its comment left out.
abbrev pub tokens_of : List ℕ → List Token
tokens_of bytes = tokens_from 0 (before_comment bytes)

-- A line that is skipped: it has no fault and holds nothing but spaces and, perhaps, a comment.
abbrev pub is_skipped : Line → Bool
is_skipped line = is_none line.fault && list_all is_space (before_comment line.bytes)

-- ---- examples, which hold by computation

spaced : tokens_of (codes " ab  c") ≡ token_at 1 3 ∷ token_at 5 6 ∷ []
spaced = refl

marked : tokens_of (codes "a{b:c;}") ≡ token_at 0 1 ∷ token_at 1 2 ∷ token_at 2 3 ∷ token_at 3 4 ∷ token_at 4 5 ∷ token_at 5 6 ∷ token_at 6 7 ∷ []
marked = refl

commented : tokens_of (codes "a \"b#c\"") ≡ token_at 0 1 ∷ token_at 2 4 ∷ []
commented = refl
