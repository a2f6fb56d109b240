-- Declarations in braces as they are written, read again.
use Rattle.std.proofs.Common.{◌≡◌, ℕ, zero, suc, Bool, true, false, not, ◌&&◌, ◌||◌, ◌==◌, List, [], ◌∷◌, ◌++◌, replicate, refl, ap, sym, ◌∙◌, if◌then◌else◌, Option, Some, None, Result, Ok, Err, codes, inl, inr, ◌⊎◌}
use Rattle.std.specs.Prelude.{⊤}
use Rattle.std.specs.List.{list_all, list_any}
use Rattle.std.specs.FinMap as map
use Rattle.std.specs.Ordering.{eq_by_cmp}
use Rattle.std.specs.Str.{bytes_eq}
use Rattle.std.proofs.lemmas.Bool.{and_parts, and_from, true≢false, not-true, eqb-true, or_parts, or_from, or_cases}
use Rattle.std.proofs.lemmas.List.{append_assoc}
use Rattle.std.proofs.lemmas.List.Folds.{list_all-append, list_any-append}
use Rattle.std.proofs.lemmas.Map.Views.{tells_apart}
use Rattle.text_scan.specs.declared.line.Fault.{Fault}
use Rattle.text_scan.specs.declared.line.Place.{Place}
use Rattle.text_scan.specs.Tokens.{word_goes_on}
use Rattle.style_types.specs.Order.{prop_cmp, prop_cmp-IsAntisymmetric}
use Rattle.style_types.specs.declared.prop.Prop.{Prop}
use Rattle.style_types.specs.declared.declared.DeclaredValue.{DeclaredValue}
use Rattle.track_text.specs.Words.{Word}
use Rattle.track_text.specs.Values.{is_relative}
use Rattle.track_text.specs.Gives.{fault_at}
use Rattle.track_text.proofs.Cuts.{cuts}
use Rattle.value_text.specs.Declarations.{declaration}
use Rattle.value_text.specs.ValueText.{Settings}
use Rattle.doc_text.specs.Label.{DeclaredMap}
use Rattle.doc_text.specs.Texts.{Text, text_at, is_empty, word_place, after_word, ◌>>=◌}
use Rattle.doc_text.specs.NodeText.{ends_declaration, Braces, with_settings, is_among, SoFar, one_declared, all_declared, braces_of, with_braces, braces_in, style_first}
use Rattle.doc_text.specs.Valid.{IsToldStyle}
use Rattle.doc_writer.specs.Documents.{declaration_words, Setting, with_value, settings_of, declarations}
use Rattle.doc_writer.specs.Properties.{property_word, all_properties}
use Rattle.doc_writer.specs.Spaces.{gap, last_or, words_after}
use Rattle.doc_writer.specs.Values.{value_words}
use Rattle.doc_writer.proofs.Kept.{after-append}
use Rattle.doc_writer.proofs.WordsBack.{is_plain, is_nil, is_token, are_tokens, any_yes, gap_is}
use Rattle.doc_writer.proofs.TextsBack.{begins, first_is, after_is, no_word}
use Rattle.doc_writer.proofs.SidesBack.{AllHold}
use Rattle.doc_writer.proofs.ValuesBack.{is_value_token}
use Rattle.doc_writer.proofs.DeclarationsBack.{IsSetting, declared_told, declaration_tokens, declaration_back}
use Rattle.doc_writer.proofs.NodesBack.{braced, StyleAt}
use Rattle.doc_writer.proofs.StylesBack.{inner, past_mark, braces_closed, braces_ended, is_one, every_property, style_made}

-- ---- a test of the bytes of a line

-- the bytes of words, and the spaces and marks between them, pass the test
pub record Passes (test : ℕ → Bool) : Type 0 where
  pub plain : (byte : ℕ) → is_plain byte ≡ true → test byte ≡ true
  pub marks : list_all test (codes " ()[],:") ≡ true

module _ (test : ℕ → Bool) (passes : Passes test) where
  space_passes : test 32 ≡ true
  space_passes = any_yes 32 test (codes " ()[],:") passes.marks refl

  pub spaces_pass : (count : ℕ) → list_all test (replicate count 32) ≡ true
  spaces_pass zero = refl
  spaces_pass (suc count) = and_from (test 32) (list_all test (replicate count 32)) space_passes (spaces_pass count)

  plain_passes : (bytes : List ℕ) → list_all is_plain bytes ≡ true → list_all test bytes ≡ true
  plain_passes [] h = refl
  plain_passes (byte ∷ bytes) h =
      let parts = and_parts (is_plain byte) (list_all is_plain bytes) h in
      and_from (test byte) (list_all test bytes) (passes.plain byte parts.0) (plain_passes bytes parts.1)

  none_pass : (bytes : List ℕ) → is_nil bytes ≡ true → list_all test bytes ≡ true
  none_pass [] h = refl
  none_pass (byte ∷ bytes) h = absurd (true≢false (sym h))

  mark_passes : (byte : ℕ) → list_any (λ mark. byte == mark) (codes "()[],") ≡ true → test byte ≡ true
  mark_passes byte h = any_yes byte test (codes "()[],") (and_parts (test 32) (list_all test (codes "()[],")) (marks_first passes.marks)).1 h where
    marks_first : list_all test (codes " ()[],:") ≡ true → (test 32 && list_all test (codes "()[],")) ≡ true
    marks_first h =
        let a = and_parts (test 32) (list_all test (codes "()[],:")) h in
        and_from (test 32) (list_all test (codes "()[],")) a.0 (and_parts (list_all test (codes "()[],")) (list_all test (codes ":")) (sym (list_all-append test (codes "()[],") (codes ":")) ∙ a.1)).0

  pub token_passes : (word : Word) → is_value_token word ≡ true → list_all test word ≡ true
  token_passes [] h = refl
  token_passes (byte ∷ bytes) h = by_case (or_cases (list_any (λ mark. byte == mark) (codes "()[],") && is_nil bytes) (list_all is_plain (byte ∷ bytes)) h) where
    by_case : ((list_any (λ mark. byte == mark) (codes "()[],") && is_nil bytes) ≡ true) ⊎ (list_all is_plain (byte ∷ bytes) ≡ true) → list_all test (byte ∷ bytes) ≡ true
    by_case (inr e) = plain_passes (byte ∷ bytes) e
    by_case (inl e) =
        let parts = and_parts (list_any (λ mark. byte == mark) (codes "()[],")) (is_nil bytes) e in
        and_from (test byte) (list_all test bytes) (mark_passes byte parts.0) (none_pass bytes parts.1)

  gap_passes : (last : ℕ) (word : Word) → list_all test (gap last word) ≡ true
  gap_passes last word =
      let g = gap_is last word in
      ap (list_all test) g.1 ∙ spaces_pass g.0

  -- words and what stands between them
  pub words_pass : (last : ℕ) (words : List Word) → list_all (list_all test) words ≡ true → list_all test (words_after last words) ≡ true
  words_pass last [] h = refl
  words_pass last (word ∷ words) h =
      let parts = and_parts (list_all test word) (list_all (list_all test) words) h in
      let after : List ℕ = words_after (last_or last word) words in
      list_all-append test (gap last word) (word ++ after)
      ∙ and_from (list_all test (gap last word)) (list_all test (word ++ after)) (gap_passes last word)
      (list_all-append test word after ∙ and_from (list_all test word) (list_all test after) parts.0 (words_pass (last_or last word) words parts.1))

  pub tokens_pass : (words : List Word) → list_all is_value_token words ≡ true → list_all (list_all test) words ≡ true
  tokens_pass [] h = refl
  tokens_pass (word ∷ words) h =
      let parts = and_parts (is_value_token word) (list_all is_value_token words) h in
      and_from (list_all test word) (list_all (list_all test) words) (token_passes word parts.0) (tokens_pass words parts.1)

-- ---- all properties

-- what a test says of each of them
one_passes : (test : Prop → Bool) (p : Prop) (properties : List Prop) → list_all test properties ≡ true → is_one p properties ≡ true → test p ≡ true
one_passes test p [] a h = absurd (true≢false (sym h))
one_passes test p (q ∷ properties) a h = by_test (eq_by_cmp prop_cmp p q) refl h (one_passes test p properties (and_parts (test q) (list_all test properties) a).1) where
  by_test : (b : Bool) → eq_by_cmp prop_cmp p q ≡ b → (b || is_one p properties) ≡ true → (is_one p properties ≡ true → test p ≡ true) → test p ≡ true
  by_test true e h more = ap test (tells_apart prop_cmp-IsAntisymmetric p q e) ∙ (and_parts (test q) (list_all test properties) a).0
  by_test false e h more = more h

each_passes : (test : Prop → Bool) (p : Prop) → list_all test all_properties ≡ true → test p ≡ true
each_passes test p h = one_passes test p all_properties h (every_property p)

name_is_plain : (p : Prop) → list_all is_plain (property_word p) ≡ true
name_is_plain p = each_passes (λ q. list_all is_plain (property_word q)) p refl

name_some : (p : Prop) → is_empty (property_word p) ≡ false
name_some p = not-true (is_empty (property_word p)) (each_passes (λ q. not (is_empty (property_word q))) p refl)

-- ---- the bytes of a declaration

mark_not_plain : (byte : ℕ) → ends_declaration byte ≡ true → is_plain byte ≡ false
mark_not_plain byte h = by_case (or_cases (byte == 125) (byte == 59) h) where
  by_case : ((byte == 125) ≡ true) ⊎ ((byte == 59) ≡ true) → is_plain byte ≡ false
  by_case (inl e) = ap is_plain (eqb-true byte 125 e)
  by_case (inr e) = ap is_plain (eqb-true byte 59 e)

plain_inner : (byte : ℕ) → is_plain byte ≡ true → inner byte ≡ true
plain_inner byte h = by_end (ends_declaration byte) refl where
  by_end : (b : Bool) → ends_declaration byte ≡ b → not b ≡ true
  by_end true e = absurd (true≢false (sym h ∙ mark_not_plain byte e))
  by_end false e = refl

inner_passes : Passes inner
inner_passes = record { plain = plain_inner; marks = refl }

declaration_inner : (relative : Bool) (last : ℕ) (p : Prop) (v : DeclaredValue) → IsSetting relative (p, v) → list_all inner (words_after last (declaration_words p v)) ≡ true
declaration_inner relative last p v s =
    words_pass inner inner_passes last (declaration_words p v)
    (and_from (list_all inner (property_word p)) (list_all (list_all inner) (value_words v)) (plain_passes inner inner_passes (property_word p) (name_is_plain p)) (tokens_pass inner inner_passes (value_words v) s.1.tokens))

-- ---- a mark after words

pub spaces_end : (count : ℕ) → word_goes_on (replicate count 32) ≡ false
spaces_end zero = refl
spaces_end (suc count) = refl

pub spaces_cut : (count : ℕ) → cuts (replicate count 32) ≡ []
spaces_cut zero = refl
spaces_cut (suc count) = spaces_cut count

-- words up to a mark, with spaces before it
pub record UpTo (last : ℕ) (front : List Word) (mark : ℕ) (back : List Word) : Type 0 where
  pub spaces : ℕ
  pub is : words_after last (front ++ (mark ∷ []) ∷ back) ≡ (words_after last front ++ replicate spaces 32) ++ mark ∷ words_after mark back

pub up_to_mark : (last : ℕ) (front : List Word) (mark : ℕ) (back : List Word) → UpTo last front mark back
up_to_mark last front mark back =
    let before : List ℕ = words_after last front in
    let g = gap_is (last_or last before) (mark ∷ []) in
    record {
      spaces = g.0;
      is =
          after-append last front ((mark ∷ []) ∷ back)
          ∙ ap (λ (gap : List ℕ). before ++ (gap ++ mark ∷ words_after mark back)) g.1
          ∙ sym (append_assoc before (replicate g.0 32) (mark ∷ words_after mark back));
    }

-- ---- one declaration

one_back : (version : ℕ) (at : Place) (last : ℕ) (p : Prop) (v : DeclaredValue) (spaces : ℕ) (made : SoFar) → IsSetting (is_relative version) (p, v) → is_among made.0 (property_word p) ≡ false
    → one_declared version (text_at at (words_after last (declaration_words p v) ++ replicate spaces 32)) made ≡ Ok (made.0 ++ property_word p ∷ [], map.insert made.1 p v)
one_back version at last p v spaces made s new =
    let text : Text = text_at at (words_after last (declaration_words p v) ++ replicate spaces 32) in
    let begun = begins text last (property_word p) (codes ":" ∷ value_words v) (replicate spaces 32) refl (declaration_tokens (is_relative version) p v s) (spaces_end spaces) in
    ap (λ (w : Word). if is_empty w then Ok made else ((if is_among made.0 w then Err (fault_at 10 (word_place text)) else declaration version text.at text.bytes) >>= (λ settings. Ok (made.0 ++ w ∷ [], with_settings settings made.1))))
    (first_is text (property_word p) (words_after (last_or last (property_word p)) (codes ":" ∷ value_words v) ++ replicate spaces 32) begun)
    ∙ ap (λ (b : Bool). if b then Ok made else ((if is_among made.0 (property_word p) then Err (fault_at 10 (word_place text)) else declaration version text.at text.bytes) >>= (λ settings. Ok (made.0 ++ property_word p ∷ [], with_settings settings made.1)))) (name_some p)
    ∙ ap (λ (b : Bool). (if b then Err (fault_at 10 (word_place text)) else declaration version text.at text.bytes) >>= (λ settings. Ok (made.0 ++ property_word p ∷ [], with_settings settings made.1))) new
    ∙ ap (λ (r : Result Settings Fault). r >>= (λ settings. Ok (made.0 ++ property_word p ∷ [], with_settings settings made.1))) (declaration_back version at last p v (replicate spaces 32) s (spaces_end spaces) (spaces_cut spaces))

-- ---- one after another

-- no name of theirs stands among these, or twice
abbrev Fresh : List Word → List Setting → Type 0
Fresh names [] = ⊤
Fresh names (s ∷ settings) = (is_among names (property_word s.0) ≡ false) × Fresh (names ++ property_word s.0 ∷ []) settings

record ReadsBraces (version : ℕ) (braces : Braces) (made : SoFar) (style : DeclaredMap) : Type 0 where
  pub rest : Text
  pub reads : with_braces version braces made ≡ Ok (style, rest)
  pub nil : rest.bytes ≡ []

text_inner : (relative : Bool) (last : ℕ) (s : Setting) (spaces : ℕ) → IsSetting relative s → list_all inner (words_after last (declaration_words s.0 s.1) ++ replicate spaces 32) ≡ true
text_inner relative last s spaces h =
    list_all-append inner (words_after last (declaration_words s.0 s.1)) (replicate spaces 32)
    ∙ and_from (list_all inner (words_after last (declaration_words s.0 s.1))) (list_all inner (replicate spaces 32)) (declaration_inner relative last s.0 s.1 h) (spaces_pass inner inner_passes spaces)

braces_back : (version : ℕ) (settings : List Setting) (at : Place) (last : ℕ) (s : Setting) (made : SoFar) → IsSetting (is_relative version) s → AllHold (IsSetting (is_relative version)) settings → Fresh made.0 (s ∷ settings)
    → ReadsBraces version (braces_of at (words_after last (declaration_words s.0 s.1 ++ declarations true settings))) made (with_settings (s ∷ settings) made.1)
braces_back version [] at last s made h all fresh =
    let m = up_to_mark last (declaration_words s.0 s.1) 125 [] in
    let bytes : List ℕ = words_after last (declaration_words s.0 s.1) ++ replicate m.spaces 32 in
    record {
      rest = text_at (past_mark at bytes) [];
      reads =
          ap (λ (b : Braces). with_braces version b made) (ap (braces_of at) m.is ∙ braces_closed at bytes [] (text_inner (is_relative version) last s m.spaces h))
          ∙ ap (λ (r : Result SoFar Fault). (r >>= all_declared version []) >>= (λ done. Ok (done.1, text_at (past_mark at bytes) []))) (one_back version at last s.0 s.1 m.spaces made h fresh.0);
      nil = refl;
    }
braces_back version (next ∷ settings) at last s made h all fresh =
    let after : List Word = declaration_words next.0 next.1 ++ declarations true settings in
    let m = up_to_mark last (declaration_words s.0 s.1) 59 after in
    let bytes : List ℕ = words_after last (declaration_words s.0 s.1) ++ replicate m.spaces 32 in
    let inside : Braces = braces_of (past_mark at bytes) (words_after 59 after) in
    let r = braces_back version settings (past_mark at bytes) 59 next (made.0 ++ property_word s.0 ∷ [], map.insert made.1 s.0 s.1) all.0 all.1 fresh.1 in
    record {
      rest = r.rest;
      reads =
          ap (λ (b : Braces). with_braces version b made) (ap (braces_of at) m.is ∙ braces_ended at bytes (words_after 59 after) (text_inner (is_relative version) last s m.spaces h))
          ∙ ap (λ (x : Result SoFar Fault). (x >>= all_declared version inside.texts) >>= (λ done. inside.close >>= (λ rest. Ok (done.1, rest)))) (one_back version at last s.0 s.1 m.spaces made h fresh.0)
          ∙ r.reads;
      nil = r.nil;
    }

-- ---- the settings of a style

abbrev are_fresh : List Word → List Prop → Bool
are_fresh names [] = true
are_fresh names (p ∷ properties) = not (is_among names (property_word p)) && are_fresh (names ++ property_word p ∷ []) properties

-- what is not among the one is not among the other
abbrev Fewer : List Word → List Word → Type 0
Fewer fewer names = (word : Word) → is_among names word ≡ false → is_among fewer word ≡ false

among_more : (names : List Word) (name word : Word) → is_among (names ++ name ∷ []) word ≡ (is_among names word || is_among (name ∷ []) word)
among_more names name word = list_any-append (λ held. bytes_eq held word) names (name ∷ [])

fewer_more : (fewer names : List Word) (name : Word) → Fewer fewer names → Fewer fewer (names ++ name ∷ [])
fewer_more fewer names name f word h = f word (or_parts (is_among names word) (is_among (name ∷ []) word) (sym (among_more names name word) ∙ h)).0

fewer_both : (fewer names : List Word) (name : Word) → Fewer fewer names → Fewer (fewer ++ name ∷ []) (names ++ name ∷ [])
fewer_both fewer names name f word h =
    let parts = or_parts (is_among names word) (is_among (name ∷ []) word) (sym (among_more names name word) ∙ h) in
    among_more fewer name word ∙ or_from (is_among fewer word) (is_among (name ∷ []) word) (f word parts.0) parts.1

fresh_settings : (value : Prop → Option DeclaredValue) (properties : List Prop) (fewer names : List Word) → Fewer fewer names → are_fresh names properties ≡ true → Fresh fewer (settings_of value properties)
fresh_settings value [] fewer names f h = tt
fresh_settings value (p ∷ properties) fewer names f h = by_value (value p) (λ less g. fresh_settings value properties less (names ++ property_word p ∷ []) g parts.1) where
  parts : (not (is_among names (property_word p)) ≡ true) × (are_fresh (names ++ property_word p ∷ []) properties ≡ true)
  parts = and_parts (not (is_among names (property_word p))) (are_fresh (names ++ property_word p ∷ []) properties) h

  by_value : (o : Option DeclaredValue) → ((less : List Word) → Fewer less (names ++ property_word p ∷ []) → Fresh less (settings_of value properties)) → Fresh fewer (with_value p o (settings_of value properties))
  by_value None more = more fewer (fewer_more fewer names (property_word p) f)
  by_value (Some v) more = (f (property_word p) (not-true (is_among names (property_word p)) parts.0), more (fewer ++ property_word p ∷ []) (fewer_both fewer names (property_word p) f))

told_settings : (relative : Bool) (value : Prop → Option DeclaredValue) (properties : List Prop) → ((p : Prop) (v : DeclaredValue) → value p ≡ Some v → IsSetting relative (p, v)) → AllHold (IsSetting relative) (settings_of value properties)
told_settings relative value [] h = tt
told_settings relative value (p ∷ properties) h = by_value (value p) refl (told_settings relative value properties h) where
  by_value : (o : Option DeclaredValue) → value p ≡ o → AllHold (IsSetting relative) (settings_of value properties) → AllHold (IsSetting relative) (with_value p o (settings_of value properties))
  by_value None e more = more
  by_value (Some v) e more = (h p v e, more)

-- ---- the style of a node

-- the words in braces of settings, where there are some
abbrev pub in_braces : List Setting → Option (List Word)
in_braces [] = None
in_braces (s ∷ settings) = Some (declaration_words s.0 s.1 ++ declarations true settings)

pub braced_words : (settings : List Setting) → declarations false settings ≡ braced (in_braces settings)
braced_words [] = refl
braced_words (s ∷ settings) = refl

declarations_tokens : (relative : Bool) (settings : List Setting) → AllHold (IsSetting relative) settings → are_tokens (declarations true settings) ≡ true
declarations_tokens relative [] h = refl
declarations_tokens relative (s ∷ settings) h =
    list_all-append is_token (declaration_words s.0 s.1) (declarations true settings)
    ∙ and_from (are_tokens (declaration_words s.0 s.1)) (are_tokens (declarations true settings)) (declaration_tokens relative s.0 s.1 h.0) (declarations_tokens relative settings h.1)

braces_tokens : (relative : Bool) (settings : List Setting) → AllHold (IsSetting relative) settings → are_tokens (braced (in_braces settings)) ≡ true
braces_tokens relative [] h = refl
braces_tokens relative (s ∷ settings) h =
    list_all-append is_token (declaration_words s.0 s.1) (declarations true settings)
    ∙ and_from (are_tokens (declaration_words s.0 s.1)) (are_tokens (declarations true settings)) (declaration_tokens relative s.0 s.1 h.0) (declarations_tokens relative settings h.1)

pub record ReadsStyle (version : ℕ) (text : Text) (style : DeclaredMap) : Type 0 where
  pub rest : Text
  pub reads : style_first version text ≡ Ok (style, rest)
  pub nil : rest.bytes ≡ []

settings_back : (version : ℕ) (text : Text) (settings : List Setting) → AllHold (IsSetting (is_relative version)) settings → Fresh [] settings → StyleAt text (in_braces settings) → ReadsStyle version text (with_settings settings map.empty)
settings_back version text [] all fresh at = record {
  rest = text;
  reads = ap (λ (w : Word). if bytes_eq w (codes "{") then with_braces version (braces_in (after_word text)) ([], map.empty) else Ok (map.empty, text)) (no_word text at);
  nil = at;
}
settings_back version text (s ∷ settings) all fresh at =
    let words : List Word = declaration_words s.0 s.1 ++ declarations true settings in
    let place : Place = (after_word text).at in
    let r = braces_back version settings place 123 s ([], map.empty) all.0 all.1 fresh in
    record {
      rest = r.rest;
      reads =
          ap (λ (w : Word). if bytes_eq w (codes "{") then with_braces version (braces_in (after_word text)) ([], map.empty) else Ok (map.empty, text)) (first_is text (codes "{") (words_after 123 words) at)
          ∙ ap (λ (bytes : List ℕ). with_braces version (braces_of place bytes) ([], map.empty)) (after_is text (codes "{") (words_after 123 words) at)
          ∙ r.reads;
      nil = r.nil;
    }

-- what is declared of a style
abbrev pub settings_in : DeclaredMap → List Setting
settings_in style = settings_of (map.get style) all_properties

style_told : (version : ℕ) (style : DeclaredMap) → IsToldStyle version style → AllHold (IsSetting (is_relative version)) (settings_in style)
style_told version style h = told_settings (is_relative version) (map.get style) all_properties (λ p v e. declared_told version p v (h p v e))

pub style_tokens : (version : ℕ) (style : DeclaredMap) → IsToldStyle version style → are_tokens (braced (in_braces (settings_in style))) ≡ true
style_tokens version style h = braces_tokens (is_relative version) (settings_in style) (style_told version style h)

pub style_back : (version : ℕ) (text : Text) (style : DeclaredMap) → IsToldStyle version style → StyleAt text (in_braces (settings_in style)) → ReadsStyle version text style
style_back version text style h at =
    let r = settings_back version text (settings_in style) (style_told version style h) (fresh_settings (map.get style) all_properties [] [] (λ word e. e) refl) at in
    record {
      rest = r.rest;
      reads = r.reads ∙ ap (λ (s : DeclaredMap). Ok (s, r.rest)) (style_made style);
      nil = r.nil;
    }
