-- What is read of a text is what a text tells.
use Rattle.std.proofs.Common.{◌≡◌, ℕ, suc, ℤ, ◌≤◌, length, arith, Bool, true, false, inl, inr, List, [], ◌∷◌, Option, Some, None, Result, Ok, Err, refl, ap, sym, subst, ◌∙◌, cond, if◌then◌else◌}
use Rattle.std.specs.Prelude.{codes}
use Rattle.std.specs.List.{position_or_len}
use Rattle.std.specs.FinMap as map
use Rattle.std.specs.Ordering.{eq_by_cmp}
use Rattle.std.proofs.lemmas.Bool.{true≢false}
use Rattle.std.proofs.lemmas.Map.Views.{tells_apart}
use Rattle.std.proofs.lemmas.Option.{none-some, same_Some}
use Rattle.text_scan.specs.declared.line.Fault.{Fault}
use Rattle.text_scan.specs.declared.line.Place.{Place}
use Rattle.text_scan.specs.declared.token.Token.{Token}
use Rattle.text_scan.specs.Tokens.{tokens_from}
use Rattle.style_types.specs.Order.{prop_cmp, prop_cmp_total, prop_cmp-IsAntisymmetric}
use Rattle.style_types.specs.declared.prop.Prop.{Prop}
use Rattle.style_types.specs.declared.declared.DeclaredValue.{DeclaredValue}
use Rattle.track_text.specs.Words.{word_at}
use Rattle.track_text.specs.Gives.{fault_at}
use Rattle.value_text.specs.Declarations.{place_after, declaration}
use Rattle.value_text.specs.ValueText.{Settings}
use Rattle.doc_text.specs.declared.kind.Kind.{Kind}
use Rattle.doc_text.specs.declared.kind.Kind.TheVariants as kind
use Rattle.doc_text.specs.Label.{DeclaredMap}
use Rattle.doc_text.specs.Texts.{Word, Text, first_word, word_place, is_word, is_ended, after_word, up_to, past, due, ◌>>=◌, end_of}
use Rattle.doc_text.specs.Tokens.{name_of, name_first, size_of_word, size_first}
use Rattle.doc_text.specs.NodeText.{is_brace, fixed_first, width_at, widths_of, all_widths, widths_first, words_first, content_first, kind_first, SoFar, with_settings, is_among, declaration_of, one_more, one_declared, all_declared, with_braces, braces_in, style_first, node_text}
use Rattle.doc_text.specs.Valid.{IsTold, AreTold, IsToldKind, IsAmong, IsDeclared, IsToldStyle}
use Rattle.doc_text.proofs.Short.{Fits, past_fits, after_fits, front_fits, tokens_few, AreWithin, wider, braces_within}

-- ---- parts of a reading
pub ok-not-err : {A : Type 0} (a : A) (fault : Fault) → ◌≡◌ {A = Result A Fault} (Err fault) (Ok a) → ⊥
ok-not-err {A} a fault e = true≢false (ap (λ (r : Result A Fault). is_err r) e)
  where
    is_err : Result A Fault → Bool
    is_err (Ok a) = false
    is_err (Err fault) = true

abbrev value_or : {A : Type 0} → A → Result A Fault → A
value_or a (Ok b) = b
value_or a (Err fault) = a

pub same-ok : {A : Type 0} (a b : A) → ◌≡◌ {A = Result A Fault} (Ok a) (Ok b) → a ≡ b
same-ok a b e = ap (value_or a) e

abbrev fault_or : {A : Type 0} → Fault → Result A Fault → Fault
fault_or fault (Ok a) = fault
fault_or fault (Err other) = other

pub same-err : {A : Type 0} (a b : Fault) → ◌≡◌ {A = Result A Fault} (Err a) (Err b) → a ≡ b
same-err a b e = ap (fault_or a) e

pub record Both (A B : Type 0) (read : Result A Fault) (next : A → Result B Fault) (b : B) : Type 0 where
  pub value : A
  pub first : read ≡ Ok value
  pub last : next value ≡ Ok b

pub both : {A B : Type 0} (read : Result A Fault) (next : A → Result B Fault) (b : B) → (read >>= next) ≡ Ok b → Both A B read next b
both (Ok a) next b e = record { value = a; first = refl; last = e }
both (Err fault) next b e = absurd (ok-not-err b fault e)

-- ---- sizes
pub size_told : (text : Text) (size : ℤ) (rest : Text) → size_first text ≡ Ok (size, rest) → IsTold size
size_told text size rest e = by_word (size_of_word (first_word text)) refl e
  where
    by_word : (found : Option ℤ) → size_of_word (first_word text) ≡ found → due 9 text found ≡ Ok (size, rest) → IsTold size
    by_word None f e = absurd (ok-not-err _ _ e)
    by_word (Some z) f e = record { word = first_word text; told = f ∙ ap (λ (r : ℤ × Text). Some r.0) (same-ok _ _ e) }

-- what follows a part is no longer than the text
due_fits : {A : Type 0} (number : ℕ) (text : Text) (found : Option A) (read : A × Text) → due number text found ≡ Ok read → Fits text → Fits read.1
due_fits number text None read e h = absurd (ok-not-err read _ e)
due_fits number text (Some value) read e h = subst (λ r. Fits r.1) (same-ok (value, after_word text) read e) (after_fits text h)

pub size_fits : (text : Text) (read : ℤ × Text) → size_first text ≡ Ok read → Fits text → Fits read.1
size_fits text read e h = due_fits 9 text (size_of_word (first_word text)) read e h

pub name_fits : (text : Text) (read : Word × Text) → name_first text ≡ Ok read → Fits text → Fits read.1
name_fits text read e h = due_fits 5 text (name_of (first_word text)) read e h

widths_told : (text : Text) (tokens : List Token) (widths : List ℤ) → widths_of text tokens ≡ Ok widths → AreTold widths
widths_told text [] widths e = subst AreTold (same-ok _ _ e) tt
widths_told text (token ∷ tokens) widths e =
    let one = both _ _ widths e in
    let more = both _ _ widths one.last in
    let told : AreTold (one.value ∷ more.value) = (width_told (size_of_word (word_at text.bytes token)) refl one.value one.first, widths_told text tokens more.value more.first) in
    subst AreTold (same-ok _ _ more.last) told
  where
    width_told : (found : Option ℤ) → size_of_word (word_at text.bytes token) ≡ found → (width : ℤ) → width_at (place_after text.at token.start) found ≡ Ok width → IsTold width
    width_told None f width e = absurd (ok-not-err _ _ e)
    width_told (Some z) f width e = record { word = word_at text.bytes token; told = f ∙ ap Some (same-ok _ _ e) }

-- as many widths as words
widths_counted : (text : Text) (tokens : List Token) (widths : List ℤ) → widths_of text tokens ≡ Ok widths → length widths ≡ length tokens
widths_counted text [] widths e = ap length (sym (same-ok [] widths e))
widths_counted text (token ∷ tokens) widths e =
    let one = both (width_at (place_after text.at token.start) (size_of_word (word_at text.bytes token))) (λ (width : ℤ). widths_of text tokens >>= λ more. Ok (width ∷ more)) widths e in
    let more = both (widths_of text tokens) (λ (more : List ℤ). Ok (one.value ∷ more)) widths one.last in
    ap length (sym (same-ok (one.value ∷ more.value) widths more.last)) ∙ ap suc (widths_counted text tokens more.value more.first)

-- ---- kinds

-- a kind that is told, and a text that a line can hold after it
abbrev pub IsRead : Kind × Text → Type 0
IsRead made = IsToldKind made.0 × Fits made.1

fixed_told : (text : Text) (made : Kind × Text) → fixed_first text ≡ Ok made → Fits text → IsRead made
fixed_told text made e h =
    let width = both _ _ made e in
    let height = both _ _ made width.last in
    let told : IsTold width.value.0 × IsTold height.value.0 = (size_told text width.value.0 width.value.1 width.first, size_told width.value.1 height.value.0 height.value.1 height.first) in
    let left : Fits height.value.1 = size_fits width.value.1 height.value height.first (size_fits text width.value width.first h) in
    subst IsRead (same-ok _ _ height.last) (told, left)

-- the widths of some words of a text
record AreWidths (read : List ℤ × Text) : Type 0 where
  pub told : AreTold read.0
  pub few : length read.0 ≤ 65536
  pub left : Fits read.1

widths_first_told : (text : Text) (read : List ℤ × Text) → widths_first text ≡ Ok read → Fits text → AreWidths read
widths_first_told text read e h =
    let stop = position_or_len is_brace text.bytes in
    let front = up_to stop text in
    let all = both (all_widths front) (λ (widths : List ℤ). Ok (widths, past stop text)) read e in
    let counted : length all.value ≡ length (tokens_from 0 front.bytes) = widths_counted front (tokens_from 0 front.bytes) all.value all.first in
    let few : length (tokens_from 0 front.bytes) ≤ length front.bytes = tokens_few 0 front.bytes in
    let fits : length front.bytes ≤ 65536 = front_fits stop text h in
    subst AreWidths (same-ok (all.value, past stop text) read all.last) (record {
      told = widths_told front (tokens_from 0 front.bytes) all.value all.first;
      few = omega (arith, counted, few, fits);
      left = past_fits stop text h;
    })

words_told : (text : Text) (made : Kind × Text) → words_first text ≡ Ok made → Fits text → IsRead made
words_told text made e h =
    let line = both _ _ made e in
    let space = both _ _ made line.last in
    let widths = both _ _ made space.last in
    let fits : Fits space.value.1 = size_fits line.value.1 space.value space.first (size_fits text line.value line.first h) in
    let read = widths_first_told space.value.1 widths.value widths.first fits in
    let told : IsTold line.value.0 × (IsTold space.value.0 × (AreTold widths.value.0 × length widths.value.0 ≤ 65536)) =
    (size_told text line.value.0 line.value.1 line.first, (size_told line.value.1 space.value.0 space.value.1 space.first, (read.told, read.few))) in
    subst IsRead (same-ok _ _ widths.last) (told, read.left)

pub content_told : (text : Text) (made : Kind × Text) → content_first text ≡ Ok made → Fits text → IsRead made
content_told text made e h = by_word (is_word (codes "leaf") text) (is_word (codes "words") text) e
  where
    by_word : (leaf words : Bool) → (if leaf then fixed_first (after_word text) else if words then words_first (after_word text) else Err (fault_at 7 (word_place text))) ≡ Ok made → IsRead made
    by_word true words e = fixed_told (after_word text) made e (after_fits text h)
    by_word false true e = words_told (after_word text) made e (after_fits text h)
    by_word false false e = absurd (ok-not-err _ _ e)

kind_told : (text : Text) (made : Kind × Text) → kind_first text ≡ Ok made → Fits text → IsRead made
kind_told text made e h = by_word (is_word (codes "grid") text) (is_word (codes "flex") text) e
  where
    by_word : (grid flex : Bool) → (if grid then Ok (kind.Grid, after_word text) else if flex then Ok (kind.Flex, after_word text) else content_first text) ≡ Ok made → IsRead made
    by_word true flex e = subst IsRead (same-ok _ _ e) (tt, after_fits text h)
    by_word false true e = subst IsRead (same-ok _ _ e) (tt, after_fits text h)
    by_word false false e = content_told text made e h

-- ---- declared values
abbrev pub AllDeclared : ℕ → Settings → Type 0
AllDeclared version settings = (setting : Prop × DeclaredValue) → IsAmong setting settings → IsDeclared version setting.0 setting.1

-- a setting more
one_told : (version : ℕ) (setting : Prop × DeclaredValue) (style : DeclaredMap) → IsDeclared version setting.0 setting.1 → IsToldStyle version style → IsToldStyle version (map.insert style setting.0 setting.1)
one_told version setting style h k p value e = by_test (eq_by_cmp prop_cmp p setting.0) refl (sym (map.get-insert prop_cmp_total style setting.0 setting.1 p) ∙ e)
  where
    by_test : (b : Bool) → eq_by_cmp prop_cmp p setting.0 ≡ b → cond b (Some setting.1) (map.get style p) ≡ Some value → IsDeclared version p value
    by_test true t e =
        subst (λ (q : Prop). IsDeclared version q value) (sym (tells_apart prop_cmp-IsAntisymmetric p setting.0 t))
        (subst (IsDeclared version setting.0) (same_Some setting.1 value e) h)
    by_test false t e = k p value e

pub settings_told : (version : ℕ) (settings : Settings) (style : DeclaredMap) → AllDeclared version settings → IsToldStyle version style → IsToldStyle version (with_settings settings style)
settings_told version [] style h k = k
settings_told version (setting ∷ settings) style h k =
    settings_told version settings (map.insert style setting.0 setting.1) (λ s a. h s (inr a)) (one_told version setting style (h setting (inl refl)) k)

pub read_declared : (version : ℕ) (at : Place) (text : List ℕ) (settings : Settings) → length text ≤ 65536 → declaration version at text ≡ Ok settings → AllDeclared version settings
read_declared version at text settings h e setting a = record { at = at; text = text; short = h; settings = settings; read = e; among = a }

declaration_told : (version : ℕ) (names : List Word) (text : Text) (settings : Settings) → Fits text → declaration_of version names text ≡ Ok settings → AllDeclared version settings
declaration_told version names text settings h e = by_name (is_among names (first_word text)) e
  where
    by_name : (b : Bool) → (if b then Err (fault_at 10 (word_place text)) else declaration version text.at text.bytes) ≡ Ok settings → AllDeclared version settings
    by_name true e = absurd (ok-not-err _ _ e)
    by_name false e = read_declared version text.at text.bytes settings h e

one_declared_told : (version : ℕ) (text : Text) (made more : SoFar) → Fits text → IsToldStyle version made.1 → one_declared version text made ≡ Ok more → IsToldStyle version more.1
one_declared_told version text made more fits h e = by_end (is_ended text) e
  where
    by_end : (b : Bool) → (if b then Ok made else declaration_of version made.0 text >>= λ settings. Ok (one_more text made settings)) ≡ Ok more → IsToldStyle version more.1
    by_end true e = subst (λ (m : SoFar). IsToldStyle version m.1) (same-ok _ _ e) h
    by_end false e =
        let one = both _ _ more e in
        subst (λ (m : SoFar). IsToldStyle version m.1) (same-ok _ _ one.last) (settings_told version one.value made.1 (declaration_told version made.0 text one.value fits one.first) h)

all_declared_told : (version : ℕ) (texts : List Text) (made more : SoFar) → AreWithin 65536 texts → IsToldStyle version made.1 → all_declared version texts made ≡ Ok more → IsToldStyle version more.1
all_declared_told version [] made more within h e = subst (λ (m : SoFar). IsToldStyle version m.1) (same-ok _ _ e) h
all_declared_told version (text ∷ texts) made more within h e =
    let one = both _ _ more e in
    all_declared_told version texts one.value more within.1 (one_declared_told version text made one.value within.0 h one.first) one.last

none_told : (version : ℕ) → IsToldStyle version map.empty
none_told version p value e = absurd (none-some value (sym (map.get-empty prop_cmp p) ∙ e))

abbrev no_style : DeclaredMap
no_style = map.empty

abbrev none_yet : SoFar
none_yet = ([], no_style)

style_told : (version : ℕ) (text : Text) (made : DeclaredMap × Text) → Fits text → style_first version text ≡ Ok made → IsToldStyle version made.0
style_told version text made h e = by_word (is_word (codes "{") text) e
  where
    by_word : (b : Bool) → ◌≡◌ {A = Result (DeclaredMap × Text) Fault} (if b then with_braces version (braces_in (after_word text)) none_yet else Ok (no_style, text)) (Ok made) → IsToldStyle version made.0
    by_word false e = subst (λ (m : DeclaredMap × Text). IsToldStyle version m.0) (same-ok (no_style, text) made e) (none_told version)
    by_word true e =
        let rest = after_word text in
        let within : AreWithin 65536 (braces_in rest).texts = wider (length rest.bytes) 65536 (braces_in rest).texts (after_fits text h) (braces_within rest.at rest.bytes) in
        let all = both (all_declared version (braces_in (after_word text)).texts none_yet) _ made e in
        let close = both (braces_in (after_word text)).close _ made all.last in
        subst (λ (m : DeclaredMap × Text). IsToldStyle version m.0) (same-ok _ made close.last) (all_declared_told version (braces_in (after_word text)).texts none_yet all.value within (none_told version) all.first)

-- ---- a node
pub node_told : (version : ℕ) (text : Text) (node : Kind × DeclaredMap) → Fits text → node_text version text ≡ Ok node → IsToldKind node.0 × IsToldStyle version node.1
node_told version text node h e =
    let kind = both _ _ node e in
    let style = both _ _ node kind.last in
    let end = both (end_of style.value.1) (λ (done : Unit {0}). Ok (kind.value.0, style.value.0)) node style.last in
    let read : IsRead kind.value = kind_told text kind.value kind.first h in
    let told : IsToldKind kind.value.0 × IsToldStyle version style.value.0 = (read.0, style_told version kind.value.1 style.value read.1 style.first) in
    subst (λ (n : Kind × DeclaredMap). IsToldKind n.0 × IsToldStyle version n.1) (same-ok _ _ end.last) told
