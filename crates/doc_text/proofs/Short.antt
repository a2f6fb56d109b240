-- A text is no longer than the line that it stands in.
use Rattle.std.proofs.Common.{ℕ, suc, ◌+◌, ◌≤◌, Bool, true, false, List, [], ◌∷◌, ◌++◌, length, if◌then◌else◌, Ok, arith}
use Rattle.std.specs.Prelude.{⊤}
use Rattle.std.specs.List.{position_or_len}
use Rattle.std.proofs.lemmas.List.{length-drop, length-take}
use Rattle.text_scan.specs.declared.line.Line.{Line}
use Rattle.text_scan.specs.declared.line.Place.{Place}
use Rattle.text_scan.specs.declared.token.Token.{Token}
use Rattle.text_scan.specs.Lines.{numbered}
use Rattle.text_scan.specs.Tokens.{is_space, is_mark, is_separator, is_comment_mark, is_skipped, front_length, word_goes_on, word_from, token_at, tokens_from, before_comment}
use Rattle.value_text.specs.Declarations.{place_after}
use Rattle.doc_text.specs.Texts.{Text, text_at, past, up_to, spaces_of, unindented, after_word, onto_end, trimmed, text_of}
use Rattle.doc_text.specs.NodeText.{is_close, is_semicolon, one_text, with_text, onto_texts, onto_first, braces_of}
use Rattle.doc_text.specs.Documents.{from_counted}
use Rattle.doc_text.specs.Valid.{IsShort, AreShort}

-- ---- a text and its parts

-- a line can hold so many bytes
abbrev pub Fits : Text → Type 0
Fits text = length text.bytes ≤ 65536

pub past_fits : (n : ℕ) (text : Text) → Fits text → Fits (past n text)
unfolding past
past_fits n text h = omega (arith, length-drop n text.bytes, h)

pub after_fits : (text : Text) → Fits text → Fits (after_word text)
unfolding after_word
after_fits text h = past_fits (front_length (unindented text).bytes) (unindented text) (past_fits (spaces_of text.bytes) text h)

pub front_fits : (n : ℕ) (text : Text) → Fits text → Fits (up_to n text)
front_fits n text h = omega (arith, length-take n text.bytes, h)

end_longer : (byte : ℕ) (bytes : List ℕ) → length (onto_end byte bytes) ≤ suc (length bytes)
end_longer byte [] = by_space (is_space byte)
  where
    by_space : (b : Bool) → length (if b then [] else byte ∷ []) ≤ 1
    by_space true = omega arith
    by_space false = omega arith
end_longer byte (next ∷ bytes) = omega arith

trimmed_shorter : (bytes : List ℕ) → length (trimmed bytes) ≤ length bytes
trimmed_shorter [] = omega arith
trimmed_shorter (byte ∷ bytes) = omega (arith, end_longer byte (trimmed bytes), trimmed_shorter bytes)

pub line_fits : (line : Line) → IsShort line → Fits (text_of line)
unfolding text_of
line_fits line h = omega (arith, trimmed_shorter (before_comment line.bytes), length-take (position_or_len is_comment_mark line.bytes) line.bytes, h)

-- ---- tokens

word_few : (start : ℕ) (goes_on : Bool) (tokens : List Token) → length (word_from start goes_on tokens) ≤ suc (length tokens)
word_few start goes_on [] = omega arith
word_few start true (token ∷ tokens) = omega arith
word_few start false (token ∷ tokens) = omega arith

-- no more tokens than bytes
pub tokens_few : (start : ℕ) (bytes : List ℕ) → length (tokens_from start bytes) ≤ length bytes
tokens_few start [] = omega arith
tokens_few start (byte ∷ bytes) = by_kind (is_separator byte) (is_mark byte) (tokens_few (start + 1) bytes)
  where
    by_kind : (separator mark : Bool) → length (tokens_from (start + 1) bytes) ≤ length bytes
        → length (if separator then (if mark then token_at start (start + 1) ∷ tokens_from (start + 1) bytes else tokens_from (start + 1) bytes) else word_from start (word_goes_on bytes) (tokens_from (start + 1) bytes)) ≤ suc (length bytes)
    by_kind true true h = omega (arith, h)
    by_kind true false h = omega (arith, h)
    by_kind false mark h = omega (arith, word_few start (word_goes_on bytes) (tokens_from (start + 1) bytes), h)

-- ---- texts in braces

abbrev pub AreWithin : ℕ → List Text → Type 0
AreWithin limit [] = ⊤
AreWithin limit (text ∷ texts) = (length text.bytes ≤ limit) × AreWithin limit texts

pub wider : (a b : ℕ) (texts : List Text) → a ≤ b → AreWithin a texts → AreWithin b texts
wider a b [] h w = tt
wider a b (text ∷ texts) h w = (let first : length text.bytes ≤ a = w.0 in omega (arith, h, first), wider a b texts h w.1)

onto_within : (start : Place) (byte : ℕ) (limit : ℕ) (texts : List Text) → AreWithin limit texts → AreWithin (suc limit) (onto_texts start byte texts)
onto_within start byte limit [] w = (omega arith, tt)
onto_within start byte limit (text ∷ texts) w = (let first : length text.bytes ≤ limit = w.0 in omega (arith, first), wider limit (suc limit) texts (omega arith) w.1)

pub braces_within : (start : Place) (bytes : List ℕ) → AreWithin (length bytes) (braces_of start bytes).texts
braces_within start [] = (omega arith, tt)
braces_within start (byte ∷ bytes) = by_byte (is_close byte) (is_semicolon byte) (braces_within (place_after start 1) bytes)
  where
    by_byte : (close semicolon : Bool) → AreWithin (length bytes) (braces_of (place_after start 1) bytes).texts
        → AreWithin (suc (length bytes)) (if close then one_text start (Ok (text_at (place_after start 1) bytes)) else if semicolon then with_text start (braces_of (place_after start 1) bytes) else onto_first start byte (braces_of (place_after start 1) bytes)).texts
    by_byte true semicolon w = (omega arith, tt)
    by_byte false true w = (omega arith, wider (length bytes) (suc (length bytes)) (braces_of (place_after start 1) bytes).texts (omega arith) w)
    by_byte false false w = onto_within start byte (length bytes) (braces_of (place_after start 1) bytes).texts w

-- ---- lines

pub counted_short : (lines : List Line) → AreShort lines → AreShort (from_counted lines)
counted_short [] h = tt
counted_short (line ∷ lines) h = by_skip (is_skipped line) (counted_short lines h.1)
  where
    by_skip : (b : Bool) → AreShort (from_counted lines) → AreShort (if b then from_counted lines else line ∷ lines)
    by_skip true left = left
    by_skip false left = h

-- the lines of a text, and a part of short lines
pub numbered_short : (number : ℕ) (texts : List (List ℕ)) → AreShort (numbered number texts)
numbered_short number [] = tt
numbered_short number (bytes ∷ texts) = (omega (arith, length-take 65536 bytes), numbered_short (number + 1) texts)

pub short_joined : (front back : List Line) → AreShort front → AreShort back → AreShort (front ++ back)
short_joined [] back f b = b
short_joined (line ∷ front) back f b = (f.0, short_joined front back f.1 b)
