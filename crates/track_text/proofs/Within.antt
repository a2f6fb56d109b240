-- The tokens of bytes stand within them.
use Rattle.std.proofs.Common.{◌≡◌, ℕ, ◌+◌, ◌≤◌, Bool, true, false, List, [], ◌∷◌, length, if◌then◌else◌, arith, refl}
use Rattle.std.proofs.lemmas.Bool.{le-leb}
use Rattle.std.specs.List.{list_all}
use Rattle.text_scan.specs.declared.token.Token.{Token}
use Rattle.text_scan.specs.Tokens.{is_mark, is_separator, word_goes_on, word_from, token_at, tokens_from}
use Rattle.track_text.specs.Words.{fits}

-- tokens that stand from one index up to another
abbrev Between : ℕ → ℕ → List Token → Type 0
Between low high [] = Unit {0}
Between low high (token ∷ tokens) = (low ≤ token.start) × (token.start ≤ token.end) × (token.end ≤ high) × Between low high tokens

lower : (low high : ℕ) (tokens : List Token) → Between (low + 1) high tokens → Between low high tokens
lower low high [] h = tt
lower low high (token ∷ tokens) h = (omega (arith, h.0), h.1, h.2, lower low high tokens h.3)

at_word : (at high : ℕ) (goes_on : Bool) (tokens : List Token) → at + 1 ≤ high → Between (at + 1) high tokens → Between at high (word_from at goes_on tokens)
at_word at high goes_on [] f h = (omega arith, omega arith, f, tt)
at_word at high true (token ∷ tokens) f h = (omega arith, omega (arith, h.0, h.1), h.2, lower at high tokens h.3)
at_word at high false (token ∷ tokens) f h = (omega arith, omega arith, f, lower at high (token ∷ tokens) h)

at_byte : (at high : ℕ) (separator mark goes_on : Bool) (tokens : List Token) → at + 1 ≤ high → Between (at + 1) high tokens
    → Between at high (if separator then (if mark then token_at at (at + 1) ∷ tokens else tokens) else word_from at goes_on tokens)
at_byte at high true true goes_on tokens f h = (omega arith, omega arith, f, lower at high tokens h)
at_byte at high true false goes_on tokens f h = lower at high tokens h
at_byte at high false mark goes_on tokens f h = at_word at high goes_on tokens f h

between : (at high : ℕ) (bytes : List ℕ) → at + length bytes ≤ high → Between at high (tokens_from at bytes)
between at high [] f = tt
between at high (byte ∷ bytes) f = at_byte at high (is_separator byte) (is_mark byte) (word_goes_on bytes) (tokens_from (at + 1) bytes) (omega arith) (between (at + 1) high bytes (omega arith))

all_fit : (bytes : List ℕ) (tokens : List Token) → Between 0 (length bytes) tokens → list_all (fits bytes) tokens ≡ true
all_fit bytes [] h = refl
all_fit bytes (token ∷ tokens) h = rw (le-leb token.start token.end h.1, le-leb token.end (length bytes) h.2, all_fit bytes tokens (h.3)) refl

pub tokens_fit : (bytes : List ℕ) → list_all (fits bytes) (tokens_from 0 bytes) ≡ true
tokens_fit bytes = all_fit bytes (tokens_from 0 bytes) (between 0 (length bytes) bytes (omega arith))
