-- The words of a leaf of words as they are written, read again; and the line of a node behind its name.
use Rattle.std.proofs.Common.{◌≡◌, ℕ, ℤ, ◌+◌, Bool, true, false, not, ◌&&◌, List, [], ◌∷◌, ◌++◌, length, map, take, drop, replicate, refl, ap, sym, ◌∙◌, arith, if◌then◌else◌, Option, Some, None, Result, Ok, Err, codes}
use Rattle.std.specs.Prelude.{⊤}
use Rattle.std.specs.List.{list_all, position_or_len}
use Rattle.std.specs.FinMap as map
use Rattle.std.specs.Str.{bytes_eq}
use Rattle.std.proofs.lemmas.Bool.{and_parts, and_from, true≢false, eqb-true}
use Rattle.std.proofs.lemmas.List.{append-nil}
use Rattle.std.proofs.lemmas.List.Folds.{list_all-append}
use Rattle.std.proofs.Math.Seq.{take-append_seam, drop-append-add}
use Rattle.part_rules.specs.declared.content.Content.TheVariants as content
use Rattle.text_scan.specs.declared.line.Fault.{Fault}
use Rattle.text_scan.specs.declared.token.Token.{Token}
use Rattle.text_scan.specs.Tokens.{tokens_from}
use Rattle.track_text.specs.Words.{Word, word_at, words_of}
use Rattle.track_text.specs.Gives.{fault_at}
use Rattle.value_text.specs.Declarations.{place_after}
use Rattle.doc_text.specs.declared.kind.Kind.{Kind}
use Rattle.doc_text.specs.declared.kind.Kind.TheVariants as kind
use Rattle.doc_text.specs.Label.{DeclaredMap}
use Rattle.doc_text.specs.Texts.{Text, past, up_to, first_word, after_word, is_empty, ◌>>=◌, word_place, end_of}
use Rattle.doc_text.specs.Tokens.{size_of_word, size_first}
use Rattle.doc_text.specs.NodeText.{fixed_first, is_brace, width_at, widths_of, all_widths, widths_first, words_first, content_first, style_first, node_text}
use Rattle.doc_text.specs.Valid.{AreTold, IsToldKind, IsToldStyle}
use Rattle.doc_writer.specs.Documents.{px_words, kind_words, style_words}
use Rattle.doc_writer.specs.Numbers.{px_number}
use Rattle.doc_writer.specs.Spaces.{last_or, words_after}
use Rattle.doc_writer.proofs.WordsBack.{is_plain, is_token, are_tokens, words_back}
use Rattle.doc_writer.proofs.TextsBack.{no_word}
use Rattle.doc_writer.proofs.LengthsBack.{px_numeral_at}
use Rattle.doc_writer.proofs.SidesBack.{AllHold}
use Rattle.doc_writer.proofs.NodesBack.{IsPx, size_told, px_back, px_token, Holds, word_first, word_after, size_first_back, braced, StyleAt, ReadsKind, grid_back, flex_back, fixed_back}
use Rattle.doc_writer.proofs.BracesBack.{Passes, words_pass, spaces_pass, spaces_end, spaces_cut, up_to_mark, in_braces, settings_in, braced_words, style_tokens, style_back}

-- ---- bytes up to a brace

abbrev no_brace : ℕ → Bool
no_brace byte = not (is_brace byte)

-- nothing is left, or a brace comes first
abbrev Stops : List ℕ → Type 0
Stops [] = ⊤
Stops (byte ∷ bytes) = is_brace byte ≡ true

stop_at : (front back : List ℕ) → list_all no_brace front ≡ true → Stops back → position_or_len is_brace (front ++ back) ≡ length front
stop_at [] [] h s = refl
stop_at [] (byte ∷ back) h s = ap (λ (b : Bool). if not b then 1 + position_or_len is_brace back else 0) s
stop_at (byte ∷ front) back h s =
    let parts = and_parts (no_brace byte) (list_all no_brace front) h in
    ap (λ (b : Bool). if b then 1 + position_or_len is_brace (front ++ back) else 0) parts.0 ∙ omega (arith, stop_at front back parts.1 s)

plain_no_brace : (byte : ℕ) → is_plain byte ≡ true → no_brace byte ≡ true
plain_no_brace byte h = by_brace (is_brace byte) refl where
  by_brace : (b : Bool) → is_brace byte ≡ b → not b ≡ true
  by_brace true e = absurd (true≢false (sym h ∙ ap is_plain (eqb-true byte 123 e)))
  by_brace false e = refl

brace_passes : Passes no_brace
brace_passes = record { plain = plain_no_brace; marks = refl }

-- ---- widths

abbrev word_or : List Word → Word
word_or [] = []
word_or (word ∷ words) = word

abbrev words_past : List Word → List Word
words_past [] = []
words_past (word ∷ words) = words

no_words : (widths : List ℤ) → [] ≡ px_words widths → widths ≡ []
no_words [] e = refl
no_words (width ∷ widths) e = absurd (true≢false (ap is_done e)) where
  is_done : List Word → Bool
  is_done [] = true
  is_done (word ∷ words) = false

some_words : (words : List Word) (word : Word) → word ∷ words ≡ [] → ⊥
some_words words word e = true≢false (sym (ap is_done e)) where
  is_done : List Word → Bool
  is_done [] = true
  is_done (word ∷ words) = false

widths_back : (text : Text) (tokens : List Token) (widths : List ℤ) → map (word_at text.bytes) tokens ≡ px_words widths → AllHold IsPx widths → widths_of text tokens ≡ Ok widths
widths_back text [] widths e h = ap (λ (ws : List ℤ). Ok ws) (sym (no_words widths e))
widths_back text (token ∷ tokens) [] e h = absurd (some_words (map (word_at text.bytes) tokens) (word_at text.bytes token) e)
widths_back text (token ∷ tokens) (width ∷ widths) e h =
    ap (λ (word : Word). width_at (place_after text.at token.start) (size_of_word word) >>= (λ first. widths_of text tokens >>= (λ rest. Ok (first ∷ rest)))) (ap word_or e)
    ∙ ap (λ (o : Option ℤ). width_at (place_after text.at token.start) o >>= (λ first. widths_of text tokens >>= (λ rest. Ok (first ∷ rest)))) (px_back width h.0)
    ∙ ap (λ (r : Result (List ℤ) Fault). r >>= (λ rest. Ok (width ∷ rest))) (widths_back text tokens widths (ap words_past e) h.1)

px_tokens : (widths : List ℤ) → AllHold IsPx widths → are_tokens (px_words widths) ≡ true
px_tokens [] h = refl
px_tokens (width ∷ widths) h = and_from (is_token (px_number width)) (are_tokens (px_words widths)) (px_token width h.0) (px_tokens widths h.1)

px_pass : (widths : List ℤ) → AllHold IsPx widths → list_all (list_all no_brace) (px_words widths) ≡ true
px_pass [] h = refl
px_pass (width ∷ widths) h = and_from (list_all no_brace (px_number width)) (list_all (list_all no_brace) (px_words widths)) (all_no_brace (px_number width) (px_numeral_at width h.0.0).plain) (px_pass widths h.1) where
  all_no_brace : (bytes : List ℕ) → list_all is_plain bytes ≡ true → list_all no_brace bytes ≡ true
  all_no_brace [] h = refl
  all_no_brace (byte ∷ bytes) h =
      let parts = and_parts (is_plain byte) (list_all is_plain bytes) h in
      and_from (no_brace byte) (list_all no_brace bytes) (plain_no_brace byte parts.0) (all_no_brace bytes parts.1)

record ReadsWidths (text : Text) (widths : List ℤ) (style : Option (List Word)) : Type 0 where
  pub rest : Text
  pub reads : widths_first text ≡ Ok (widths, rest)
  pub at : StyleAt rest style

-- the widths before what stops them
widths_at : (text : Text) (last : ℕ) (widths : List ℤ) (spaces : ℕ) (back : List ℕ) → AllHold IsPx widths → Stops back → text.bytes ≡ (words_after last (px_words widths) ++ replicate spaces 32) ++ back
    → (rest : Text) × ((widths_first text ≡ Ok (widths, rest)) × (rest.bytes ≡ back))
unfolding past
widths_at text last widths spaces back h s e =
    let front : List ℕ = words_after last (px_words widths) ++ replicate spaces 32 in
    let clear : list_all no_brace front ≡ true =
    list_all-append no_brace (words_after last (px_words widths)) (replicate spaces 32)
    ∙ and_from (list_all no_brace (words_after last (px_words widths))) (list_all no_brace (replicate spaces 32)) (words_pass no_brace brace_passes last (px_words widths) (px_pass widths h)) (spaces_pass no_brace brace_passes spaces) in
    let stop : position_or_len is_brace text.bytes ≡ length front = ap (position_or_len is_brace) e ∙ stop_at front back clear s in
    let upper : take (length front) text.bytes ≡ front = ap (take (length front)) e ∙ take-append_seam front back in
    let none : length front ≡ length front + 0 = omega arith in
    let lower : drop (length front) text.bytes ≡ back = ap (drop (length front)) e ∙ ap (λ (n : ℕ). drop n (front ++ back)) none ∙ drop-append-add front back 0 in
    let words : words_of (take (length front) text.bytes) ≡ px_words widths = ap words_of upper ∙ words_back last (px_words widths) (replicate spaces 32) (px_tokens widths h) (spaces_end spaces) (spaces_cut spaces) in (
      past (length front) text,
      (
        ap (λ (n : ℕ). all_widths (up_to n text) >>= (λ ws. Ok (ws, past n text))) stop
            ∙ ap (λ (r : Result (List ℤ) Fault). r >>= (λ ws. Ok (ws, past (length front) text))) (widths_back (up_to (length front) text) (tokens_from 0 (take (length front) text.bytes)) widths words h),
        lower,
      ),
    )

widths_first_back : (text : Text) (last : ℕ) (widths : List ℤ) (style : Option (List Word)) → AllHold IsPx widths → Holds text last (px_words widths ++ braced style) → ReadsWidths text widths style
widths_first_back text last widths None h e =
    let none : words_after last (px_words widths ++ []) ≡ (words_after last (px_words widths) ++ replicate 0 32) ++ [] =
    ap (words_after last) (append-nil (px_words widths)) ∙ sym (append-nil (words_after last (px_words widths))) ∙ sym (append-nil (words_after last (px_words widths) ++ [])) in
    let w = widths_at text last widths 0 [] h tt (e ∙ none) in
    record { rest = w.0; reads = w.1.0; at = w.1.1 }
widths_first_back text last widths (Some words) h e =
    let m = up_to_mark last (px_words widths) 123 words in
    let w = widths_at text last widths m.spaces (123 ∷ words_after 123 words) h refl (e ∙ m.is) in
    record {
      rest = w.0;
      reads = w.1.0;
      at = record { spaces = 0; bytes = w.1.1; token = refl; ends = (λ no. absurd (true≢false (sym no))) };
    }

-- `words` with its numbers
words_kind_back : (text : Text) (last : ℕ) (line space : ℤ) (widths : List ℤ) (style : Option (List Word)) → IsPx line → IsPx space → AllHold IsPx widths
    → Holds text last (codes "words" ∷ px_number line ∷ px_number space ∷ (px_words widths ++ braced style)) → are_tokens (braced style) ≡ true → ReadsKind text (kind.Leaf (content.Words line space widths)) style
words_kind_back text last line space widths style l s h e t =
    let rest : List Word = px_words widths ++ braced style in
    let more : are_tokens rest ≡ true = list_all-append is_token (px_words widths) (braced style) ∙ and_from (are_tokens (px_words widths)) (are_tokens (braced style)) (px_tokens widths h) t in
    let one : are_tokens (px_number space ∷ rest) ≡ true = and_from (is_token (px_number space)) (are_tokens rest) (px_token space s) more in
    let two : are_tokens (px_number line ∷ px_number space ∷ rest) ≡ true = and_from (is_token (px_number line)) (are_tokens (px_number space ∷ rest)) (px_token line l) one in
    let a : Text = after_word text in
    let b : Text = after_word a in
    let c : Text = after_word b in
    let last_a : ℕ = last_or last (codes "words") in
    let last_b : ℕ = last_or last_a (px_number line) in
    let last_c : ℕ = last_or last_b (px_number space) in
    let ea : Holds a last_a (px_number line ∷ px_number space ∷ rest) = word_after text last (codes "words") (px_number line ∷ px_number space ∷ rest) e two in
    let eb : Holds b last_b (px_number space ∷ rest) = word_after a last_a (px_number line) (px_number space ∷ rest) ea two in
    let ec : Holds c last_c rest = word_after b last_b (px_number space) rest eb one in
    let w = widths_first_back c last_c widths style h ec in
    let first : first_word text ≡ codes "words" = word_first text last (codes "words") (px_number line ∷ px_number space ∷ rest) e two in
    record {
      rest = w.rest;
      reads =
          ap (λ (v : Word). if bytes_eq v (codes "grid") then Ok (kind.Grid, a) else if bytes_eq v (codes "flex") then Ok (kind.Flex, a) else content_first text) first
          ∙ ap (λ (v : Word). if bytes_eq v (codes "leaf") then fixed_first a else if bytes_eq v (codes "words") then words_first a else Err (fault_at 7 (word_place text))) first
          ∙ ap (λ (r : Result (ℤ × Text) Fault). r >>= (λ x. size_first x.1 >>= (λ y. widths_first y.1 >>= (λ z. Ok (kind.Leaf (content.Words x.0 y.0 z.0), z.1))))) (size_first_back a last_a line (px_number space ∷ rest) ea one l)
          ∙ ap (λ (r : Result (ℤ × Text) Fault). r >>= (λ y. widths_first y.1 >>= (λ z. Ok (kind.Leaf (content.Words line y.0 z.0), z.1)))) (size_first_back b last_b space rest eb more s)
          ∙ ap (λ (r : Result (List ℤ × Text) Fault). r >>= (λ z. Ok (kind.Leaf (content.Words line space z.0), z.1))) w.reads;
      at = w.at;
    }

-- ---- all kinds

sizes_told : (sizes : List ℤ) → AreTold sizes → AllHold IsPx sizes
sizes_told [] h = tt
sizes_told (size ∷ sizes) h = (size_told size h.0, sizes_told sizes h.1)

kind_back : (text : Text) (last : ℕ) (k : Kind) (style : Option (List Word)) → IsToldKind k → Holds text last (kind_words k ++ braced style) → are_tokens (braced style) ≡ true → ReadsKind text k style
kind_back text last kind.Grid style told e t = grid_back text last style e t
kind_back text last kind.Flex style told e t = flex_back text last style e t
kind_back text last (kind.Leaf (content.Fixed width height)) style told e t = fixed_back text last width height style (size_told width told.0) (size_told height told.1) e t
kind_back text last (kind.Leaf (content.Words line space widths)) style told e t =
    words_kind_back text last line space widths style (size_told line told.0) (size_told space told.1.0) (sizes_told widths told.1.1.0) e t

pub kind_tokens : (k : Kind) → IsToldKind k → are_tokens (kind_words k) ≡ true
kind_tokens kind.Grid told = refl
kind_tokens kind.Flex told = refl
kind_tokens (kind.Leaf (content.Fixed width height)) told = and_from (is_token (px_number width)) (is_token (px_number height) && true) (px_token width (size_told width told.0)) (and_from (is_token (px_number height)) true (px_token height (size_told height told.1)) refl)
kind_tokens (kind.Leaf (content.Words line space widths)) told =
    and_from (is_token (px_number line)) (is_token (px_number space) && are_tokens (px_words widths)) (px_token line (size_told line told.0))
    (and_from (is_token (px_number space)) (are_tokens (px_words widths)) (px_token space (size_told space told.1.0)) (px_tokens widths (sizes_told widths told.1.1.0)))

-- ---- what stands behind the name of a node

pub node_tokens : (version : ℕ) (k : Kind) (style : DeclaredMap) → IsToldKind k → IsToldStyle version style → are_tokens (kind_words k ++ style_words (map.get style)) ≡ true
node_tokens version k style told h =
    list_all-append is_token (kind_words k) (style_words (map.get style))
    ∙ and_from (are_tokens (kind_words k)) (are_tokens (style_words (map.get style))) (kind_tokens k told) (ap are_tokens (braced_words (settings_in style)) ∙ style_tokens version style h)

pub node_back : (version : ℕ) (text : Text) (last : ℕ) (k : Kind) (style : DeclaredMap) → IsToldKind k → IsToldStyle version style → Holds text last (kind_words k ++ style_words (map.get style)) → node_text version text ≡ Ok (k, style)
node_back version text last k style told h e =
    let words : List Word = braced (in_braces (settings_in style)) in
    let r = kind_back text last k (in_braces (settings_in style)) told (e ∙ ap (λ (ws : List Word). words_after last (kind_words k ++ ws)) (braced_words (settings_in style))) (style_tokens version style h) in
    let s = style_back version r.rest style h r.at in
    ap (λ (x : Result (Kind × Text) Fault). x >>= (λ kind. style_first version kind.1 >>= (λ style. end_of style.1 >>= (λ _. Ok (kind.0, style.0))))) r.reads
    ∙ ap (λ (x : Result (DeclaredMap × Text) Fault). x >>= (λ style. end_of style.1 >>= (λ _. Ok (k, style.0)))) s.reads
    ∙ ap (λ (w : Word). (if is_empty w then Ok tt else Err (fault_at 9 (word_place s.rest))) >>= (λ _. Ok (k, style))) (no_word s.rest s.nil)
