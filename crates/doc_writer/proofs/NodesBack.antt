-- The kinds of nodes as they are written, read again.
use Rattle.std.proofs.Common.{◌≡◌, ℕ, ℤ, ◌/◌, ◌^◌, ◌<◌, ◌≤◌, Bool, true, not, unsigned_abs, List, [], ◌∷◌, ◌++◌, refl, ap, sym, ◌∙◌, arith, if◌then◌else◌, Option, Some, None, Result, Ok, Err, subst, codes}
use Rattle.std.specs.Str.{bytes_eq}
use Rattle.std.proofs.lemmas.Bool.{and_from}
use Rattle.std.proofs.lemmas.List.{append-nil}
use Rattle.std.proofs.Math.Nat.{div-le_self}
use Rattle.lunit.specs.Decimals.{read_number}
use Rattle.lunit.specs.Forms.{sizes}
use Rattle.lunit.specs.Printed.{is_negative}
use Rattle.part_rules.specs.declared.content.Content.TheVariants as content
use Rattle.text_scan.specs.declared.line.Fault.{Fault}
use Rattle.track_text.specs.Words.{Word}
use Rattle.track_text.specs.Values.{ends_in, before}
use Rattle.track_text.specs.Gives.{fault_at}
use Rattle.doc_text.specs.declared.kind.Kind.{Kind}
use Rattle.doc_text.specs.declared.kind.Kind.TheVariants as kind
use Rattle.doc_text.specs.Texts.{Text, first_word, after_word, ◌>>=◌, word_place, due}
use Rattle.doc_text.specs.Tokens.{size_of_word, size_first}
use Rattle.doc_text.specs.NodeText.{fixed_first, words_first, content_first, kind_first}
use Rattle.doc_text.specs.Valid.{IsTold}
use Rattle.doc_writer.specs.Numbers.{px_number}
use Rattle.doc_writer.specs.Spaces.{last_or, words_after}
use Rattle.doc_writer.proofs.WordsBack.{is_token, are_tokens}
use Rattle.doc_writer.proofs.TextsBack.{Begins, begins, first_is, after_is}
use Rattle.doc_writer.proofs.NumbersBack.{number_back}
use Rattle.doc_writer.proofs.LengthsBack.{px_numeral_at}
use Rattle.doc_writer.proofs.Told.{Every, every_if, every_so, every_at, IsReadBy, number_told}
use Rattle.doc_writer.proofs.QuietBack.{numeral_no_px}
use Rattle.doc_writer.proofs.ValuesBack.{numeral_token}
use Rattle.doc_writer.proofs.DeclarationsBack.{value_token_is}

-- ---- numbers of px

-- a number that a viewport or a leaf can have
abbrev pub IsPx : ℤ → Type 0
IsPx size = (unsigned_abs size ≤ 67108864) × (not (is_negative size) ≡ true)

px_told : (word : Word) → Every IsPx (size_of_word word)
unfolding size_of_word
px_told word =
    every_if IsPx (ends_in (codes "px") word) (read_number sizes (before (codes "px") word)) (read_number sizes word)
    (λ _. every_so (IsReadBy sizes) IsPx (read_number sizes (before (codes "px") word)) (λ z h. h) (number_told sizes (before (codes "px") word)))
    (λ _. every_so (IsReadBy sizes) IsPx (read_number sizes word) (λ z h. h) (number_told sizes word))

pub size_told : (size : ℤ) → IsTold size → IsPx size
size_told size t = every_at IsPx (size_of_word t.word) size (px_told t.word) t.told

pub small_px : (n : ℕ) → n ≤ 67108864 → n / 64 < 2 ^ 64
small_px n h = omega (arith, h, div-le_self n 64)

pub px_back : (size : ℤ) → IsPx size → size_of_word (px_number size) ≡ Some size
unfolding size_of_word
px_back size h =
    ap (λ (b : Bool). if b then read_number sizes (before (codes "px") (px_number size)) else read_number sizes (px_number size)) (numeral_no_px (px_number size) (px_numeral_at size h.0))
    ∙ number_back sizes size refl (small_px (unsigned_abs size) h.0) h.0 h.1

pub px_token : (size : ℤ) → IsPx size → is_token (px_number size) ≡ true
px_token size h = value_token_is (px_number size) (numeral_token (px_number size) (px_numeral_at size h.0))

-- ---- one word after another

-- the text goes on with these words
abbrev pub Holds : Text → ℕ → List Word → Type 0
Holds text last words = text.bytes ≡ words_after last words

pub word_first : (text : Text) (last : ℕ) (word : Word) (words : List Word) → Holds text last (word ∷ words) → are_tokens (word ∷ words) ≡ true → first_word text ≡ word
word_first text last word words e t = first_is text word (words_after (last_or last word) words ++ []) (begins text last word words [] (e ∙ sym (append-nil (words_after last (word ∷ words)))) t refl)

pub word_after : (text : Text) (last : ℕ) (word : Word) (words : List Word) → Holds text last (word ∷ words) → are_tokens (word ∷ words) ≡ true → Holds (after_word text) (last_or last word) words
word_after text last word words e t =
    after_is text word (words_after (last_or last word) words ++ []) (begins text last word words [] (e ∙ sym (append-nil (words_after last (word ∷ words)))) t refl)
    ∙ append-nil (words_after (last_or last word) words)

pub size_first_back : (text : Text) (last : ℕ) (size : ℤ) (words : List Word) → Holds text last (px_number size ∷ words) → are_tokens words ≡ true → IsPx size → size_first text ≡ Ok (size, after_word text)
size_first_back text last size words e t h =
    ap (λ (word : Word). due 9 text (size_of_word word)) (word_first text last (px_number size) words e (and_from (is_token (px_number size)) (are_tokens words) (px_token size h) t))
    ∙ ap (due 9 text) (px_back size h)

-- ---- what stands before the declarations

-- words in braces, of which the first opens them; or none
abbrev pub braced : Option (List Word) → List Word
braced None = []
braced (Some words) = codes "{" ∷ words

-- the text goes on with these declarations, or ends
abbrev pub StyleAt : Text → Option (List Word) → Type 0
StyleAt text None = text.bytes ≡ []
StyleAt text (Some words) = Begins text (codes "{") (words_after 123 words)

pub style_at : (text : Text) (last : ℕ) (style : Option (List Word)) → Holds text last (braced style) → are_tokens (braced style) ≡ true → StyleAt text style
style_at text last None e t = e
style_at text last (Some words) e t =
    subst (λ (rest : List ℕ). Begins text (codes "{") rest) (append-nil (words_after 123 words))
    (begins text last (codes "{") words [] (e ∙ sym (append-nil (words_after last (codes "{" ∷ words)))) t refl)

pub record ReadsKind (text : Text) (k : Kind) (style : Option (List Word)) : Type 0 where
  pub rest : Text
  pub reads : kind_first text ≡ Ok (k, rest)
  pub at : StyleAt rest style

pub grid_back : (text : Text) (last : ℕ) (style : Option (List Word)) → Holds text last (codes "grid" ∷ braced style) → are_tokens (braced style) ≡ true → ReadsKind text kind.Grid style
grid_back text last style e t = record {
  rest = after_word text;
  reads = ap (λ (w : Word). if bytes_eq w (codes "grid") then Ok (kind.Grid, after_word text) else if bytes_eq w (codes "flex") then Ok (kind.Flex, after_word text) else content_first text) (word_first text last (codes "grid") (braced style) e t);
  at = style_at (after_word text) (last_or last (codes "grid")) style (word_after text last (codes "grid") (braced style) e t) t;
}

pub flex_back : (text : Text) (last : ℕ) (style : Option (List Word)) → Holds text last (codes "flex" ∷ braced style) → are_tokens (braced style) ≡ true → ReadsKind text kind.Flex style
flex_back text last style e t = record {
  rest = after_word text;
  reads = ap (λ (w : Word). if bytes_eq w (codes "grid") then Ok (kind.Grid, after_word text) else if bytes_eq w (codes "flex") then Ok (kind.Flex, after_word text) else content_first text) (word_first text last (codes "flex") (braced style) e t);
  at = style_at (after_word text) (last_or last (codes "flex")) style (word_after text last (codes "flex") (braced style) e t) t;
}

-- `leaf` and two numbers
pub fixed_back : (text : Text) (last : ℕ) (width height : ℤ) (style : Option (List Word)) → IsPx width → IsPx height → Holds text last (codes "leaf" ∷ px_number width ∷ px_number height ∷ braced style) → are_tokens (braced style) ≡ true
    → ReadsKind text (kind.Leaf (content.Fixed width height)) style
fixed_back text last width height style w h e t =
    let sizes : List Word = px_number width ∷ px_number height ∷ braced style in
    let high : are_tokens (px_number height ∷ braced style) ≡ true = and_from (is_token (px_number height)) (are_tokens (braced style)) (px_token height h) t in
    let both : are_tokens sizes ≡ true = and_from (is_token (px_number width)) (are_tokens (px_number height ∷ braced style)) (px_token width w) high in
    let a : Text = after_word text in
    let b : Text = after_word a in
    let ea : Holds a (last_or last (codes "leaf")) sizes = word_after text last (codes "leaf") sizes e both in
    let eb : Holds b (last_or (last_or last (codes "leaf")) (px_number width)) (px_number height ∷ braced style) = word_after a (last_or last (codes "leaf")) (px_number width) (px_number height ∷ braced style) ea both in
    let first : first_word text ≡ codes "leaf" = word_first text last (codes "leaf") sizes e both in
    record {
      rest = after_word b;
      reads =
          ap (λ (v : Word). if bytes_eq v (codes "grid") then Ok (kind.Grid, a) else if bytes_eq v (codes "flex") then Ok (kind.Flex, a) else content_first text) first
          ∙ ap (λ (v : Word). if bytes_eq v (codes "leaf") then fixed_first a else if bytes_eq v (codes "words") then words_first a else Err (fault_at 7 (word_place text))) first
          ∙ ap (λ (r : Result (ℤ × Text) Fault). r >>= (λ x. size_first x.1 >>= (λ y. Ok (kind.Leaf (content.Fixed x.0 y.0), y.1)))) (size_first_back a (last_or last (codes "leaf")) width (px_number height ∷ braced style) ea high w)
          ∙ ap (λ (r : Result (ℤ × Text) Fault). r >>= (λ y. Ok (kind.Leaf (content.Fixed width y.0), y.1))) (size_first_back b (last_or (last_or last (codes "leaf")) (px_number width)) height (braced style) eb t h);
      at = style_at (after_word b) (last_or (last_or (last_or last (codes "leaf")) (px_number width)) (px_number height)) style (word_after b (last_or (last_or last (codes "leaf")) (px_number width)) (px_number height) (braced style) eb high) t;
    }
