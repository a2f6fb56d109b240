-- The words of a line, cut again from its text.
use Rattle.std.proofs.Common.{◌≡◌, ℕ, zero, suc, ◌+◌, Bool, true, false, not, ◌&&◌, ◌||◌, ◌==◌, List, [], ◌∷◌, ◌++◌, length, take, replicate, refl, ap, sym, ◌∙◌, arith, if◌then◌else◌, inl, inr, ◌⊎◌, codes}
use Rattle.std.specs.List.{list_all, list_any, position_or_len}
use Rattle.std.proofs.lemmas.Bool.{and_parts, and_from, eqb-true, true≢false, or_right, not-true}
use Rattle.std.proofs.lemmas.List.{append-nil, append_assoc, take_all}
use Rattle.std.proofs.lemmas.List.Folds.{list_all-append}
use Rattle.text_scan.specs.Lines.{is_printable}
use Rattle.text_scan.specs.Tokens.{is_separator, is_mark, is_space, is_comment_mark, word_goes_on, front_length, before_comment}
use Rattle.track_text.specs.Words.{Word, words_of}
use Rattle.track_text.specs.PlainText.{is_word}
use Rattle.track_text.proofs.Cuts.{onto_word, cuts, words_are, cut_word}
use Rattle.doc_writer.specs.Spaces.{ends_joined, begins_joined, gap, last_or, words_after}

-- a byte that may stand in a word
abbrev pub is_plain : ℕ → Bool
is_plain byte = not (is_separator byte) && (not (is_comment_mark byte) && is_printable byte)

abbrev pub is_nil : List ℕ → Bool
is_nil [] = true
is_nil (byte ∷ bytes) = false

-- a mark, or bytes that may stand in a word
abbrev pub is_token : Word → Bool
is_token [] = false
is_token (byte ∷ bytes) = (is_mark byte && is_nil bytes) || list_all is_plain (byte ∷ bytes)

abbrev pub are_tokens : List Word → Bool
are_tokens words = list_all is_token words

-- ---- bytes by a test

-- a byte that fails a test is none of those that pass it
pub any_not : (byte : ℕ) (test : ℕ → Bool) (bytes : List ℕ) → list_all test bytes ≡ true → test byte ≡ false → list_any (λ mark. byte == mark) bytes ≡ false
any_not byte test [] a f = refl
any_not byte test (m ∷ bytes) a f = by_test (byte == m) refl (any_not byte test bytes (and_parts (test m) (list_all test bytes) a).1 f) where
  by_test : (b : Bool) → (byte == m) ≡ b → list_any (λ mark. byte == mark) bytes ≡ false → (b || list_any (λ mark. byte == mark) bytes) ≡ false
  by_test true e h = absurd (true≢false (sym ((and_parts (test m) (list_all test bytes) a).0) ∙ sym (ap test (eqb-true byte m e)) ∙ f))
  by_test false e h = h

pub any_yes : (byte : ℕ) (test : ℕ → Bool) (bytes : List ℕ) → list_all test bytes ≡ true → list_any (λ mark. byte == mark) bytes ≡ true → test byte ≡ true
any_yes byte test [] a h = absurd (true≢false (sym h))
any_yes byte test (m ∷ bytes) a h = by_test (byte == m) refl (any_yes byte test bytes (and_parts (test m) (list_all test bytes) a).1) where
  by_test : (b : Bool) → (byte == m) ≡ b → (list_any (λ mark. byte == mark) bytes ≡ true → test byte ≡ true) → test byte ≡ true
  by_test true e more = ap test (eqb-true byte m e) ∙ (and_parts (test m) (list_all test bytes) a).0
  by_test false e more = more (ap (λ (b : Bool). b || list_any (λ mark. byte == mark) bytes) (sym e) ∙ h)

-- ---- tokens

abbrev pub inside : ℕ → Bool
inside byte = not (is_separator byte)

pub all_inside : (bytes : List ℕ) → list_all is_plain bytes ≡ true → list_all inside bytes ≡ true
all_inside [] h = refl
all_inside (byte ∷ bytes) h =
    let parts = and_parts (is_plain byte) (list_all is_plain bytes) h in
    and_from (inside byte) (list_all inside bytes) (and_parts (inside byte) (not (is_comment_mark byte) && is_printable byte) parts.0).0 (all_inside bytes parts.1)

pub plain_is_word : (word : Word) → is_nil word ≡ false → list_all is_plain word ≡ true → is_word word ≡ true
plain_is_word [] n h = absurd (true≢false n)
plain_is_word (byte ∷ bytes) n h = all_inside (byte ∷ bytes) h

pub record IsMarkWord (word : Word) : Type 0 where
  pub byte : ℕ
  pub is : word ≡ byte ∷ []
  pub mark : is_mark byte ≡ true

pub token_cases : (word : Word) → is_token word ≡ true → IsMarkWord word ⊎ (list_all is_plain word ≡ true)
token_cases [] h = absurd (true≢false (sym h))
token_cases (byte ∷ []) h = by_mark (is_mark byte) refl where
  by_mark : (b : Bool) → is_mark byte ≡ b → IsMarkWord (byte ∷ []) ⊎ (list_all is_plain (byte ∷ []) ≡ true)
  by_mark true e = inl (record { byte = byte; is = refl; mark = e })
  by_mark false e = inr (ap (λ (b : Bool). (b && true) || list_all is_plain (byte ∷ [])) (sym e) ∙ h)
token_cases (byte ∷ next ∷ bytes) h = inr (by_mark (is_mark byte) h) where
  by_mark : (b : Bool) → ((b && false) || list_all is_plain (byte ∷ next ∷ bytes)) ≡ true → list_all is_plain (byte ∷ next ∷ bytes) ≡ true
  by_mark true h = h
  by_mark false h = h

pub token_not_nil : (word : Word) → is_token word ≡ true → is_nil word ≡ false
token_not_nil [] h = absurd (true≢false (sym h))
token_not_nil (byte ∷ bytes) h = refl

pub mark_ends : (byte : ℕ) → is_mark byte ≡ true → is_separator byte ≡ true
mark_ends byte h = or_right (is_space byte) (is_mark byte) h

-- a token is cut off before what ends it
cut_token : (word : Word) (rest : List ℕ) → is_token word ≡ true → (is_word word ≡ true → word_goes_on rest ≡ false) → cuts (word ++ rest) ≡ word ∷ cuts rest
cut_token word rest t h = by_case (token_cases word t) where
  by_case : IsMarkWord word ⊎ (list_all is_plain word ≡ true) → cuts (word ++ rest) ≡ word ∷ cuts rest
  by_case (inr plain) =
      let w : is_word word ≡ true = plain_is_word word (token_not_nil word t) plain in
      cut_word word rest w (h w)
  by_case (inl m) =
      ap (λ (w : Word). cuts (w ++ rest)) m.is
      ∙ ap (λ (b : Bool). if b then (if is_mark m.byte then (m.byte ∷ []) ∷ cuts rest else cuts rest) else onto_word m.byte (word_goes_on rest) (cuts rest)) (mark_ends m.byte m.mark)
      ∙ ap (λ (b : Bool). if b then (m.byte ∷ []) ∷ cuts rest else cuts rest) m.mark
      ∙ ap (λ (w : Word). w ∷ cuts rest) (sym m.is)

-- ---- the spaces between

gap_skipped : (last : ℕ) (word : Word) (text : List ℕ) → cuts (gap last word ++ text) ≡ cuts text
gap_skipped last [] text = refl
gap_skipped last (byte ∷ word) text = by_test (ends_joined last || begins_joined byte) where
  by_test : (b : Bool) → cuts ((if b then [] else 32 ∷ []) ++ text) ≡ cuts text
  by_test true = refl
  by_test false = refl

-- after a word a space stands, or a mark
gap_ends : (last : ℕ) (word : Word) (text : List ℕ) → is_separator last ≡ false → is_token word ≡ true → word_goes_on (gap last word ++ (word ++ text)) ≡ false
gap_ends last [] text s t = absurd (true≢false (sym t))
gap_ends last (byte ∷ word) text s t =
    ap (λ (b : Bool). word_goes_on ((if b || begins_joined byte then [] else 32 ∷ []) ++ (byte ∷ (word ++ text)))) (any_not last is_separator (codes " ([") refl s)
    ∙ by_test (begins_joined byte) refl where
      by_test : (b : Bool) → begins_joined byte ≡ b → word_goes_on ((if b then [] else 32 ∷ []) ++ (byte ∷ (word ++ text))) ≡ false
      by_test true e = ap not (any_yes byte is_separator (codes "()],:;") refl e)
      by_test false e = refl

last_inside : (byte : ℕ) (bytes : List ℕ) → is_separator byte ≡ false → list_all inside bytes ≡ true → is_separator (last_or byte bytes) ≡ false
last_inside byte [] s h = s
last_inside byte (next ∷ bytes) s h =
    let parts = and_parts (inside next) (list_all inside bytes) h in
    last_inside next bytes (not-true (is_separator next) parts.0) parts.1

word_last : (last : ℕ) (word : Word) → is_word word ≡ true → is_separator (last_or last word) ≡ false
word_last last [] w = absurd (true≢false (sym w))
word_last last (byte ∷ bytes) w =
    let parts = and_parts (inside byte) (list_all inside bytes) w in
    last_inside byte bytes (not-true (is_separator byte) parts.0) parts.1

-- after a word nothing goes on
pub words_end : (last : ℕ) (word : Word) (words : List Word) (rest : List ℕ) → are_tokens words ≡ true → word_goes_on rest ≡ false → is_word word ≡ true → word_goes_on (words_after (last_or last word) words ++ rest) ≡ false
words_end last word [] rest t g w = g
words_end last word (next ∷ words) rest t g w =
    let end : ℕ = last_or last word in
    ap word_goes_on (append_assoc (gap end next) (next ++ words_after (last_or end next) words) rest ∙ ap (λ (text : List ℕ). gap end next ++ text) (append_assoc next (words_after (last_or end next) words) rest))
    ∙ gap_ends end next (words_after (last_or end next) words ++ rest) (word_last last word w) (and_parts (is_token next) (are_tokens words) t).0

-- the first of the words, and what follows
pub first_of : (last : ℕ) (word : Word) (words : List Word) (rest : List ℕ) → words_after last (word ∷ words) ++ rest ≡ gap last word ++ (word ++ (words_after (last_or last word) words ++ rest))
first_of last word words rest =
    append_assoc (gap last word) (word ++ words_after (last_or last word) words) rest
    ∙ ap (λ (text : List ℕ). gap last word ++ text) (append_assoc word (words_after (last_or last word) words) rest)

pub cut_words : (last : ℕ) (words : List Word) (rest : List ℕ) → are_tokens words ≡ true → word_goes_on rest ≡ false → cuts (words_after last words ++ rest) ≡ words ++ cuts rest
cut_words last [] rest t g = refl
cut_words last (word ∷ words) rest t g =
    let parts = and_parts (is_token word) (are_tokens words) t in
    let after : List ℕ = words_after (last_or last word) words ++ rest in
    ap cuts (first_of last word words rest)
    ∙ gap_skipped last word (word ++ after)
    ∙ cut_token word after parts.0 (words_end last word words rest parts.1 g)
    ∙ ap (λ (ws : List Word). word ∷ ws) (cut_words (last_or last word) words rest parts.1 g)

-- the words of a text that may have a space at its end
pub words_back : (last : ℕ) (words : List Word) (rest : List ℕ) → are_tokens words ≡ true → word_goes_on rest ≡ false → cuts rest ≡ [] → words_of (words_after last words ++ rest) ≡ words
words_back last words rest t g n = words_are (words_after last words ++ rest) ∙ cut_words last words rest t g ∙ ap (λ (ws : List Word). words ++ ws) n ∙ append-nil words

pub before_end : (bytes : List ℕ) → word_goes_on bytes ≡ false → position_or_len is_separator bytes ≡ 0
before_end [] g = refl
before_end (byte ∷ bytes) g = by_byte (is_separator byte) g where
  by_byte : (b : Bool) → not b ≡ false → (if not b then 1 + position_or_len is_separator bytes else 0) ≡ 0
  by_byte true g = refl
  by_byte false g = absurd (true≢false g)

pub over : (bytes rest : List ℕ) → list_all inside bytes ≡ true → word_goes_on rest ≡ false → position_or_len is_separator (bytes ++ rest) ≡ length bytes
over [] rest a g = before_end rest g
over (byte ∷ bytes) rest a g =
    let parts = and_parts (inside byte) (list_all inside bytes) a in
    ap (λ (b : Bool). if b then 1 + position_or_len is_separator (bytes ++ rest) else 0) parts.0 ∙ omega (arith, over bytes rest parts.1 g)

pub front_is : (word : Word) (rest : List ℕ) → is_token word ≡ true → (is_word word ≡ true → word_goes_on rest ≡ false) → front_length (word ++ rest) ≡ length word
front_is word rest t h = by_case (token_cases word t) where
  by_word : (w : Word) → is_nil w ≡ false → list_all inside w ≡ true → word_goes_on rest ≡ false → front_length (w ++ rest) ≡ length w
  by_word [] n a g = absurd (true≢false n)
  by_word (byte ∷ bytes) n a g = by_mark (is_mark byte) refl where
    by_mark : (b : Bool) → is_mark byte ≡ b → (if b then 1 else position_or_len is_separator (byte ∷ (bytes ++ rest))) ≡ length (byte ∷ bytes)
    by_mark true e = absurd (true≢false (sym (mark_ends byte e) ∙ not-true (is_separator byte) (and_parts (inside byte) (list_all inside bytes) a).0))
    by_mark false e = over (byte ∷ bytes) rest a g

  by_case : IsMarkWord word ⊎ (list_all is_plain word ≡ true) → front_length (word ++ rest) ≡ length word
  by_case (inl m) =
      ap (λ (w : Word). front_length (w ++ rest)) m.is
      ∙ ap (λ (b : Bool). if b then 1 else position_or_len is_separator (m.byte ∷ rest)) m.mark
      ∙ ap length (sym m.is)
  by_case (inr plain) = by_word word (token_not_nil word t) (all_inside word plain) (h (plain_is_word word (token_not_nil word t) plain))

-- the gap before a word is some spaces
pub gap_is : (last : ℕ) (word : Word) → (count : ℕ) × (gap last word ≡ replicate count 32)
gap_is last [] = (0, refl)
gap_is last (byte ∷ word) = by_test (ends_joined last || begins_joined byte) where
  by_test : (b : Bool) → (count : ℕ) × (if◌then◌else◌ {A = List ℕ} b [] (32 ∷ []) ≡ replicate count 32)
  by_test true = (0, refl)
  by_test false = (1, refl)

-- ---- the text of a whole line

-- a byte that may stand in a line without a comment
abbrev pub is_written : ℕ → Bool
is_written byte = not (is_comment_mark byte) && is_printable byte

mark_written : (byte : ℕ) → is_mark byte ≡ true → is_written byte ≡ true
mark_written byte m = any_yes byte is_written (codes "{}()[]:;,/") refl m

plain_written : (bytes : List ℕ) → list_all is_plain bytes ≡ true → list_all is_written bytes ≡ true
plain_written [] h = refl
plain_written (byte ∷ bytes) h =
    let parts = and_parts (is_plain byte) (list_all is_plain bytes) h in
    and_from (is_written byte) (list_all is_written bytes) (and_parts (not (is_separator byte)) (is_written byte) parts.0).1 (plain_written bytes parts.1)

token_written : (word : Word) → is_token word ≡ true → list_all is_written word ≡ true
token_written word t = by_case (token_cases word t) where
  by_case : IsMarkWord word ⊎ (list_all is_plain word ≡ true) → list_all is_written word ≡ true
  by_case (inl m) = ap (list_all is_written) m.is ∙ and_from (is_written m.byte) true (mark_written m.byte m.mark) refl
  by_case (inr plain) = plain_written word plain

gap_written : (last : ℕ) (word : Word) → list_all is_written (gap last word) ≡ true
gap_written last [] = refl
gap_written last (byte ∷ word) = by_test (ends_joined last || begins_joined byte) where
  by_test : (b : Bool) → list_all is_written (if b then [] else 32 ∷ []) ≡ true
  by_test true = refl
  by_test false = refl

pub words_written : (last : ℕ) (words : List Word) → are_tokens words ≡ true → list_all is_written (words_after last words) ≡ true
words_written last [] t = refl
words_written last (word ∷ words) t =
    let parts = and_parts (is_token word) (are_tokens words) t in
    let after : List ℕ = words_after (last_or last word) words in
    list_all-append is_written (gap last word) (word ++ after)
    ∙ and_from (list_all is_written (gap last word)) (list_all is_written (word ++ after)) (gap_written last word)
    (list_all-append is_written word after ∙ and_from (list_all is_written word) (list_all is_written after) (token_written word parts.0) (words_written (last_or last word) words parts.1))

pub spaces_written : (count : ℕ) → list_all is_written (replicate count 32) ≡ true
spaces_written zero = refl
spaces_written (suc count) = spaces_written count

no_comment : (bytes : List ℕ) → list_all is_written bytes ≡ true → position_or_len is_comment_mark bytes ≡ length bytes
no_comment [] h = refl
no_comment (byte ∷ bytes) h =
    let parts = and_parts (is_written byte) (list_all is_written bytes) h in
    ap (λ (b : Bool). if b then 1 + position_or_len is_comment_mark bytes else 0) (and_parts (not (is_comment_mark byte)) (is_printable byte) parts.0).0
    ∙ omega (arith, no_comment bytes parts.1)

pub before_none : (bytes : List ℕ) → list_all is_written bytes ≡ true → before_comment bytes ≡ bytes
before_none bytes h = ap (λ (n : ℕ). take n bytes) (no_comment bytes h) ∙ take_all (length bytes) bytes (omega arith)
