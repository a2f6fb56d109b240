-- The words of a text, without the places of its tokens.
use Rattle.std.proofs.Common.{◌≡◌, ℕ, suc, ◌+◌, ◌-◌, ◌≤◌, Bool, true, false, not, ◌&&◌, List, [], ◌∷◌, ◌++◌, map, take, drop, length, ap, refl, sym, ◌∙◌, arith, if◌then◌else◌, add-one}
use Rattle.std.proofs.lemmas.List.{append_assoc}
use Rattle.std.proofs.lemmas.Bool.{true≢false}
use Rattle.std.specs.List.{list_all}
use Rattle.text_scan.specs.declared.token.Token.{Token}
use Rattle.text_scan.specs.Tokens.{is_separator, is_mark, word_goes_on, word_from, token_at, tokens_from}
use Rattle.track_text.specs.Words.{Word, word_at, words_of}
use Rattle.track_text.specs.PlainText.{is_word}

-- a byte before the words after it, the first of which it begins where it goes on
abbrev pub onto_word : ℕ → Bool → List Word → List Word
onto_word byte goes_on [] = (byte ∷ []) ∷ []
onto_word byte true (word ∷ words) = (byte ∷ word) ∷ words
onto_word byte false (word ∷ words) = (byte ∷ []) ∷ word ∷ words

abbrev pub cuts : List ℕ → List Word
cuts [] = []
cuts (byte ∷ bytes) = if is_separator byte then (if is_mark byte then (byte ∷ []) ∷ cuts bytes else cuts bytes) else onto_word byte (word_goes_on bytes) (cuts bytes)

-- the first of the tokens, where a word goes on, stands at the index
abbrev Starts : ℕ → Bool → List Token → Type 0
Starts at goes_on [] = Unit {0}
Starts at true (token ∷ tokens) = (token.start ≡ at) × (at ≤ token.end)
Starts at false (token ∷ tokens) = Unit {0}

starts_by : (at : ℕ) (goes_on : Bool) (tokens : List Token) → Starts (at + 1) goes_on tokens → Starts at true (word_from at goes_on tokens)
starts_by at goes_on [] h = (refl, omega arith)
starts_by at true (token ∷ tokens) h = (refl, omega (arith, h.1))
starts_by at false (token ∷ tokens) h = (refl, omega arith)

starts_any : (at : ℕ) (tokens : List Token) → Starts at false tokens
starts_any at [] = tt
starts_any at (token ∷ tokens) = tt

starts : (at : ℕ) (bytes : List ℕ) → Starts at (word_goes_on bytes) (tokens_from at bytes)
starts at [] = tt
starts at (byte ∷ bytes) = by_test (is_separator byte) (starts (at + 1) bytes) where
  by_test : (b : Bool) → Starts (at + 1) (word_goes_on bytes) (tokens_from (at + 1) bytes)
      → Starts at (not b) (if b then (if is_mark byte then token_at at (at + 1) ∷ tokens_from (at + 1) bytes else tokens_from (at + 1) bytes) else word_from at (word_goes_on bytes) (tokens_from (at + 1) bytes))
  by_test true h = starts_any at (if is_mark byte then token_at at (at + 1) ∷ tokens_from (at + 1) bytes else tokens_from (at + 1) bytes)
  by_test false h = starts_by at (word_goes_on bytes) (tokens_from (at + 1) bytes) h

drop_before : (before bytes : List ℕ) → drop (length before) (before ++ bytes) ≡ bytes
drop_before [] bytes = refl
drop_before (b ∷ before) bytes = drop_before before bytes

slice_one : (n m : ℕ) (byte : ℕ) (bytes : List ℕ) → m ≡ 1 → take m (byte ∷ bytes) ≡ byte ∷ []
slice_one n m byte bytes e = ap (λ (k : ℕ). take k (byte ∷ bytes)) e

-- one byte of the text
one_byte : (before : List ℕ) (byte : ℕ) (bytes : List ℕ) → word_at (before ++ byte ∷ bytes) (token_at (length before) (length before + 1)) ≡ byte ∷ []
one_byte before byte bytes =
    let n : (length before + 1) - length before ≡ 1 = omega arith in
    ap (λ (text : List ℕ). take ((length before + 1) - length before) text) (drop_before before (byte ∷ bytes)) ∙ slice_one (length before) ((length before + 1) - length before) byte bytes n

take_more : (k m : ℕ) (byte : ℕ) (bytes : List ℕ) → m ≡ k + 1 → take m (byte ∷ bytes) ≡ byte ∷ take k bytes
take_more k m byte bytes e = ap (λ (n : ℕ). take n (byte ∷ bytes)) (e ∙ add-one k)

drop_past : (before : List ℕ) (byte : ℕ) (bytes : List ℕ) → drop (length before + 1) (before ++ byte ∷ bytes) ≡ bytes
drop_past [] byte bytes = refl
drop_past (b ∷ before) byte bytes =
    let n : suc (length before) + 1 ≡ suc (length before + 1) = omega arith in
    ap (λ (k : ℕ). drop k (b ∷ (before ++ byte ∷ bytes))) n ∙ drop_past before byte bytes

longer_word : (before : List ℕ) (byte : ℕ) (bytes : List ℕ) (token : Token) → token.start ≡ length before + 1 → length before + 1 ≤ token.end
    → word_at (before ++ byte ∷ bytes) (token_at (length before) token.end) ≡ byte ∷ word_at (before ++ byte ∷ bytes) token
longer_word before byte bytes token s e =
    let n : token.end - length before ≡ (token.end - token.start) + 1 = omega (arith, s, e) in
    ap (λ (text : List ℕ). take (token.end - length before) text) (drop_before before (byte ∷ bytes))
    ∙ take_more (token.end - token.start) (token.end - length before) byte bytes n
    ∙ ap (λ (text : List ℕ). byte ∷ take (token.end - token.start) text) (sym (drop_past before byte bytes) ∙ ap (λ (k : ℕ). drop k (before ++ byte ∷ bytes)) (sym s))

onto_tokens : (before : List ℕ) (byte : ℕ) (bytes : List ℕ) (goes_on : Bool) (tokens : List Token) → Starts (length before + 1) goes_on tokens
    → map (word_at (before ++ byte ∷ bytes)) (word_from (length before) goes_on tokens) ≡ onto_word byte goes_on (map (word_at (before ++ byte ∷ bytes)) tokens)
onto_tokens before byte bytes goes_on [] h = ap (λ (word : Word). word ∷ []) (one_byte before byte bytes)
onto_tokens before byte bytes true (token ∷ tokens) h = ap (λ (word : Word). word ∷ map (word_at (before ++ byte ∷ bytes)) tokens) (longer_word before byte bytes token h.0 h.1)
onto_tokens before byte bytes false (token ∷ tokens) h = ap (λ (word : Word). word ∷ map (word_at (before ++ byte ∷ bytes)) (token ∷ tokens)) (one_byte before byte bytes)

by_byte : (before : List ℕ) (byte : ℕ) (bytes : List ℕ) (separator mark : Bool)
    → map (word_at (before ++ byte ∷ bytes)) (tokens_from (length before + 1) bytes) ≡ cuts bytes
    → map (word_at (before ++ byte ∷ bytes)) (if separator then (if mark then token_at (length before) (length before + 1) ∷ tokens_from (length before + 1) bytes else tokens_from (length before + 1) bytes) else word_from (length before) (word_goes_on bytes) (tokens_from (length before + 1) bytes))
    ≡ (if separator then (if mark then (byte ∷ []) ∷ cuts bytes else cuts bytes) else onto_word byte (word_goes_on bytes) (cuts bytes))
by_byte before byte bytes true true h = ap (λ (word : Word). word ∷ map (word_at (before ++ byte ∷ bytes)) (tokens_from (length before + 1) bytes)) (one_byte before byte bytes) ∙ ap (λ (words : List Word). (byte ∷ []) ∷ words) h
by_byte before byte bytes true false h = h
by_byte before byte bytes false mark h = onto_tokens before byte bytes (word_goes_on bytes) (tokens_from (length before + 1) bytes) (starts (length before + 1) bytes) ∙ ap (onto_word byte (word_goes_on bytes)) h

length_more : (before : List ℕ) (byte : ℕ) → length (before ++ byte ∷ []) ≡ length before + 1
length_more [] byte = refl
length_more (b ∷ before) byte = omega (arith, length_more before byte)

cut_at : (before bytes : List ℕ) → map (word_at (before ++ bytes)) (tokens_from (length before) bytes) ≡ cuts bytes
cut_at before [] = refl
cut_at before (byte ∷ bytes) =
    by_byte before byte bytes (is_separator byte) (is_mark byte)
    (ap (λ (text : List ℕ). map (word_at text) (tokens_from (length before + 1) bytes)) (sym (append_assoc before (byte ∷ []) bytes))
    ∙ ap (λ (n : ℕ). map (word_at ((before ++ byte ∷ []) ++ bytes)) (tokens_from n bytes)) (sym (length_more before byte))
    ∙ cut_at (before ++ byte ∷ []) bytes)

pub words_are : (text : List ℕ) → words_of text ≡ cuts text
words_are text = cut_at [] text

-- ---- a word before what ends it

onto_ended : (byte : ℕ) (words : List Word) → onto_word byte false words ≡ (byte ∷ []) ∷ words
onto_ended byte [] = refl
onto_ended byte (word ∷ words) = refl

cut_from : (byte : ℕ) (bytes rest : List ℕ) → is_separator byte ≡ false → list_all (λ b. not (is_separator b)) bytes ≡ true → word_goes_on rest ≡ false
    → cuts (byte ∷ (bytes ++ rest)) ≡ (byte ∷ bytes) ∷ cuts rest
cut_from byte [] rest s a g = rw (s, g) (onto_ended byte (cuts rest))
cut_from byte (next ∷ bytes) rest s a g = rw s (by_next (is_separator next) refl a (λ e b. cut_from next bytes rest e b g)) where
  by_next : (b : Bool) → is_separator next ≡ b → (not (is_separator next) && list_all (λ b. not (is_separator b)) bytes) ≡ true
      → (is_separator next ≡ false → list_all (λ b. not (is_separator b)) bytes ≡ true → cuts (next ∷ (bytes ++ rest)) ≡ (next ∷ bytes) ∷ cuts rest)
      → onto_word byte (not (is_separator next)) (cuts (next ∷ (bytes ++ rest))) ≡ (byte ∷ next ∷ bytes) ∷ cuts rest
  by_next true e a h = elim (true≢false (sym (sym (ap (λ (x : Bool). not x && list_all (λ b. not (is_separator b)) bytes) e) ∙ a))) [ ]
  by_next false e a h = ap (λ (x : Bool). onto_word byte (not x) (cuts (next ∷ (bytes ++ rest)))) e ∙ ap (onto_word byte true) (h e (sym (ap (λ (x : Bool). not x && list_all (λ b. not (is_separator b)) bytes) e) ∙ a))

pub cut_word : (word : Word) (rest : List ℕ) → is_word word ≡ true → word_goes_on rest ≡ false → cuts (word ++ rest) ≡ word ∷ cuts rest
cut_word [] rest w g = elim (true≢false (sym w)) [ ]
cut_word (byte ∷ bytes) rest w g = by_first (is_separator byte) refl w where
  by_first : (b : Bool) → is_separator byte ≡ b → (not (is_separator byte) && list_all (λ b. not (is_separator b)) bytes) ≡ true → cuts (byte ∷ (bytes ++ rest)) ≡ (byte ∷ bytes) ∷ cuts rest
  by_first true e a = elim (true≢false (sym (sym (ap (λ (x : Bool). not x && list_all (λ b. not (is_separator b)) bytes) e) ∙ a))) [ ]
  by_first false e a = cut_from byte bytes rest e (sym (ap (λ (x : Bool). not x && list_all (λ b. not (is_separator b)) bytes) e) ∙ a) g
