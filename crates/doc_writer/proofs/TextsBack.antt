-- The text of a line, word by word.
use Rattle.std.proofs.Common.{◌≡◌, ℕ, zero, suc, ◌+◌, Bool, true, false, not, ◌&&◌, ◌||◌, List, [], ◌∷◌, ◌++◌, length, take, drop, replicate, refl, ap, sym, ◌∙◌, arith, if◌then◌else◌, inl, inr, ◌⊎◌, codes}
use Rattle.std.specs.List.{list_all}
use Rattle.std.proofs.lemmas.Bool.{and_parts, true≢false, not-true}
use Rattle.std.proofs.Math.Seq.{take-append_seam, drop-append-add}
use Rattle.text_scan.specs.Lines.{is_printable}
use Rattle.text_scan.specs.Tokens.{is_separator, is_mark, is_space, is_comment_mark, word_goes_on, front_length}
use Rattle.track_text.specs.Words.{Word}
use Rattle.track_text.specs.PlainText.{is_word}
use Rattle.doc_text.specs.Texts.{Text, past, spaces_of, unindented, first_word, after_word, onto_end, trimmed}
use Rattle.doc_writer.specs.Spaces.{last_or, words_after}
use Rattle.doc_writer.proofs.WordsBack.{is_plain, is_nil, is_token, are_tokens, any_yes, IsMarkWord, token_cases, token_not_nil, front_is, first_of, words_end, gap_is}

-- ---- a text word by word

-- the text begins with spaces and this token, and goes on so
pub record Begins (text : Text) (word : Word) (rest : List ℕ) : Type 0 where
  pub spaces : ℕ
  pub bytes : text.bytes ≡ replicate spaces 32 ++ (word ++ rest)
  pub token : is_token word ≡ true
  pub ends : is_word word ≡ true → word_goes_on rest ≡ false

pub not_space : (word : Word) (rest : List ℕ) → is_token word ≡ true → spaces_of (word ++ rest) ≡ 0
not_space word rest t = by_case (token_cases word t) where
  solid : (byte : ℕ) (bytes : List ℕ) → is_space byte ≡ false → spaces_of (byte ∷ bytes) ≡ 0
  solid byte bytes e = ap (λ (b : Bool). if not (not b) then 1 + spaces_of bytes else 0) e

  mark_solid : (byte : ℕ) → is_mark byte ≡ true → is_space byte ≡ false
  mark_solid byte m = not-true (is_space byte) (any_yes byte (λ b. not (is_space b)) (codes "{}()[]:;,/") refl m)

  plain_solid : (byte : ℕ) → is_plain byte ≡ true → is_space byte ≡ false
  plain_solid byte p = by_space (is_space byte) refl where
    by_space : (b : Bool) → is_space byte ≡ b → b ≡ false
    by_space true e = absurd (true≢false (sym ((and_parts (not (is_separator byte)) (not (is_comment_mark byte) && is_printable byte) p).0) ∙ ap (λ (b : Bool). not (b || is_mark byte)) e))
    by_space false e = refl

  by_case : IsMarkWord word ⊎ (list_all is_plain word ≡ true) → spaces_of (word ++ rest) ≡ 0
  by_case (inl m) = ap (λ (w : Word). spaces_of (w ++ rest)) m.is ∙ solid m.byte rest (mark_solid m.byte m.mark)
  by_case (inr plain) = by_word word (token_not_nil word t) plain where
    by_word : (w : Word) → is_nil w ≡ false → list_all is_plain w ≡ true → spaces_of (w ++ rest) ≡ 0
    by_word [] n p = absurd (true≢false n)
    by_word (byte ∷ bytes) n p = solid byte (bytes ++ rest) (plain_solid byte (and_parts (is_plain byte) (list_all is_plain bytes) p).0)

pub spaces_before : (count : ℕ) (text : List ℕ) → spaces_of text ≡ 0 → spaces_of (replicate count 32 ++ text) ≡ count
spaces_before zero text e = e
spaces_before (suc count) text e = omega (arith, spaces_before count text e)

past_spaces : (count : ℕ) (text : List ℕ) → drop count (replicate count 32 ++ text) ≡ text
past_spaces zero text = refl
past_spaces (suc count) text = past_spaces count text

unindented_is : (text : Text) (word : Word) (rest : List ℕ) → Begins text word rest → (unindented text).bytes ≡ word ++ rest
unfolding past
unindented_is text word rest b =
    ap (λ (bytes : List ℕ). drop (spaces_of bytes) bytes) b.bytes
    ∙ ap (λ (n : ℕ). drop n (replicate b.spaces 32 ++ (word ++ rest))) (spaces_before b.spaces (word ++ rest) (not_space word rest b.token))
    ∙ past_spaces b.spaces (word ++ rest)

pub first_is : (text : Text) (word : Word) (rest : List ℕ) → Begins text word rest → first_word text ≡ word
unfolding first_word
first_is text word rest b =
    ap (λ (bytes : List ℕ). take (front_length bytes) bytes) (unindented_is text word rest b)
    ∙ ap (λ (n : ℕ). take n (word ++ rest)) (front_is word rest b.token b.ends)
    ∙ take-append_seam word rest

pub after_is : (text : Text) (word : Word) (rest : List ℕ) → Begins text word rest → (after_word text).bytes ≡ rest
unfolding after_word past
after_is text word rest b =
    ap (λ (bytes : List ℕ). drop (front_length bytes) bytes) (unindented_is text word rest b)
    ∙ ap (λ (n : ℕ). drop n (word ++ rest)) (front_is word rest b.token b.ends ∙ (let e : length word ≡ length word + 0 = omega arith in e))
    ∙ drop-append-add word rest 0

pub begins : (text : Text) (last : ℕ) (word : Word) (words : List Word) (rest : List ℕ) → text.bytes ≡ words_after last (word ∷ words) ++ rest → are_tokens (word ∷ words) ≡ true → word_goes_on rest ≡ false
    → Begins text word (words_after (last_or last word) words ++ rest)
begins text last word words rest e t g =
    let parts = and_parts (is_token word) (are_tokens words) t in
    let s = gap_is last word in
    record {
      spaces = s.0;
      bytes = e ∙ first_of last word words rest ∙ ap (λ (spaces : List ℕ). spaces ++ (word ++ (words_after (last_or last word) words ++ rest))) s.1;
      token = parts.0;
      ends = words_end last word words rest parts.1 g;
    }

-- no token is left
pub no_word : (text : Text) → text.bytes ≡ [] → first_word text ≡ []
unfolding first_word past
no_word text e = ap (λ (bytes : List ℕ). take (front_length (drop (spaces_of bytes) bytes)) (drop (spaces_of bytes) bytes)) e

-- a line that ends with no space is its own text
pub trimmed_same : (byte : ℕ) (bytes : List ℕ) → is_space (last_or byte bytes) ≡ false → trimmed (byte ∷ bytes) ≡ byte ∷ bytes
trimmed_same byte [] s = ap (λ (b : Bool). if b then [] else byte ∷ []) s
trimmed_same byte (next ∷ bytes) s = ap (onto_end byte) (trimmed_same next bytes s)
