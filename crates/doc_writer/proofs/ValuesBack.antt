-- Values without lists as they are written, read again.
use Rattle.std.proofs.Common.{◌≡◌, ℕ, ℤ, pos, ◌<◌, ◌≤◌, Bool, true, false, not, ◌&&◌, ◌||◌, ◌==◌, nat_le, unsigned_abs, List, [], ◌∷◌, ◌++◌, refl, ap, sym, ◌∙◌, arith, Option, Some, None, codes, length}
use Rattle.std.specs.Prelude.{⊤}
use Rattle.std.specs.List.{list_all, list_any}
use Rattle.std.specs.Option.{option_map}
use Rattle.std.proofs.lemmas.Bool.{and_parts, and_from, true≢false, or_right, or_left, agree_below_at, leb-true, eqb-true}
use Rattle.std.proofs.Math.Nat.{div-le_self}
use Rattle.lunit.specs.Names.{between, begins_name, continues_name, is_name}
use Rattle.lunit.specs.declared.line_value.LineValue.{LineValue}
use Rattle.lunit.specs.declared.line_value.LineValue.TheVariants as line
use Rattle.style_types.specs.declared.declared.DeclaredValue.{DeclaredValue}
use Rattle.style_types.specs.declared.unit.Unit.{Unit}
use Rattle.style_types.specs.declared.value.Align.{Align}
use Rattle.style_types.specs.declared.value.AlignMode.{AlignMode}
use Rattle.style_types.specs.declared.value.AlignMode.TheVariants as mode
use Rattle.style_types.specs.declared.value.Scroll.{Scroll}
use Rattle.style_types.specs.declared.value.Scroll.TheVariants as scroll
use Rattle.style_types.specs.declared.value.Size.{Size}
use Rattle.style_types.specs.declared.value.Size.TheVariants as size
use Rattle.style_types.specs.declared.value.Value.{Value}
use Rattle.style_types.specs.declared.value.Value.TheVariants as value
use Rattle.track_text.specs.Words.{Word, ended}
use Rattle.track_text.specs.Values.{integer_of, factor_of}
use Rattle.track_text.specs.NameSets.{is_line_name, is_reserved}
use Rattle.value_text.specs.declared.form.Form.{Form}
use Rattle.value_text.specs.declared.form.Form.TheVariants as form
use Rattle.value_text.specs.declared.form.Refused.{Refused}
use Rattle.value_text.specs.declared.form.Refused.TheVariants as refused
use Rattle.value_text.specs.declared.keyword.AlignForm.{AlignForm}
use Rattle.value_text.specs.declared.size.Measured.{Measured}
use Rattle.value_text.specs.declared.size.SizeForm.{SizeForm}
use Rattle.value_text.specs.Keywords.{word_alone, either, scroll_of, flow_of, align_of}
use Rattle.value_text.specs.Lines.{one_line}
use Rattle.value_text.specs.Refusals.{holds_refused, is_refused}
use Rattle.value_text.specs.Sizes.{units_of, size_value, one_size}
use Rattle.value_text.specs.ValueText.{plain, line_value, value_of}
use Rattle.doc_writer.specs.Numbers.{integer, factor, percentage, length_word}
use Rattle.doc_writer.specs.Values.{size_word, name_words, line_words, mode_word, safe_words, value_words}
use Rattle.doc_writer.proofs.WordsBack.{is_plain, is_nil}
use Rattle.doc_writer.proofs.LengthsBack.{IsNumeral, length_plain, percent_plain, factor_back, factor_numeral, integer_back, integer_numeral}
use Rattle.doc_writer.proofs.Told.{Every, every_map, every_if, every_so, factor_told, integer_told}
use Rattle.doc_writer.proofs.QuietBack.{starts_some, number_starts, numeral_not_measured, numeral_no_percent, quiet_word, quiet_number, AllowsPercent}
use Rattle.doc_writer.proofs.LinesBack.{IsNamed, IsLine, line_told, line_back, line_quiet}
use Rattle.doc_writer.proofs.SizesBack.{IsSize, IsMeasured, one_size_told, one_size_back, size_quiet, length_starts, percent_starts, IsAlign, align_told, align_back, align_quiet}

-- ---- the words of values

-- a word of a value: a mark that values have, or bytes that may stand in a word
abbrev pub is_value_token : Word → Bool
is_value_token [] = false
is_value_token (byte ∷ bytes) = (list_any (λ mark. byte == mark) (codes "()[],") && is_nil bytes) || list_all is_plain (byte ∷ bytes)

pub plain_token : (word : Word) → is_nil word ≡ false → list_all is_plain word ≡ true → is_value_token word ≡ true
plain_token [] n h = absurd (true≢false n)
plain_token (byte ∷ bytes) n h = or_right (list_any (λ mark. byte == mark) (codes "()[],") && is_nil bytes) (list_all is_plain (byte ∷ bytes)) h

abbrev plain_name : ℕ → Bool
plain_name byte = not (continues_name byte) || is_plain byte

continues_below : (byte : ℕ) → continues_name byte ≡ true → byte < 123
continues_below byte h = by_low (between 97 122 byte) refl where
  high : (low most : ℕ) → most < 123 → between low most byte ≡ true → byte < 123
  high low most m e = omega (arith, m, leb-true byte most (and_parts (nat_le low byte) (nat_le byte most) e).1)

  by_rest : (u n d m : Bool) → between 65 90 byte ≡ u → (byte == 95) ≡ n → between 48 57 byte ≡ d → (byte == 45) ≡ m → ((u || n) || (d || m)) ≡ true → byte < 123
  by_rest true n d m ue ne de me k = high 65 90 (omega arith) ue
  by_rest false true d m ue ne de me k = omega (arith, eqb-true byte 95 ne)
  by_rest false false true m ue ne de me k = high 48 57 (omega arith) de
  by_rest false false false true ue ne de me k = omega (arith, eqb-true byte 45 me)
  by_rest false false false false ue ne de me k = absurd (true≢false (sym k))

  by_low : (b : Bool) → between 97 122 byte ≡ b → byte < 123
  by_low true e = high 97 122 (omega arith) e
  by_low false e = by_rest (between 65 90 byte) (byte == 95) (between 48 57 byte) (byte == 45) refl refl refl refl (ap (λ (b : Bool). (b || (between 65 90 byte || byte == 95)) || (between 48 57 byte || byte == 45)) (sym e) ∙ h)

name_bytes : (bytes : List ℕ) → list_all continues_name bytes ≡ true → list_all is_plain bytes ≡ true
name_bytes [] h = refl
name_bytes (byte ∷ bytes) h =
    let parts = and_parts (continues_name byte) (list_all continues_name bytes) h in
    and_from (is_plain byte) (list_all is_plain bytes) (ap (λ (b : Bool). not b || is_plain byte) (sym parts.0) ∙ agree_below_at plain_name (λ _. true) 123 byte refl (continues_below byte parts.0)) (name_bytes bytes parts.1)

pub name_plain : (name : Word) → is_name name ≡ true → list_all is_plain name ≡ true
name_plain [] h = absurd (true≢false (sym h))
name_plain (byte ∷ bytes) h =
    let a = and_parts (begins_name byte && list_all continues_name bytes) (nat_le (length (byte ∷ bytes)) 58) h in
    let b = and_parts (begins_name byte) (list_all continues_name bytes) a.0 in
    name_bytes (byte ∷ bytes) (and_from (continues_name byte) (list_all continues_name bytes) (or_left (begins_name byte) (between 48 57 byte || byte == 45) b.0) b.1)

pub name_some : (name : Word) → is_name name ≡ true → is_nil name ≡ false
name_some [] h = absurd (true≢false (sym h))
name_some (byte ∷ bytes) h = refl

pub line_name_plain : (name : Word) → is_line_name name ≡ true → list_all is_plain name ≡ true
line_name_plain name h = name_plain name (and_parts (is_name name) (not (is_reserved name)) h).0

pub name_token : (name : Word) → is_line_name name ≡ true → is_value_token name ≡ true
name_token name h = plain_token name (name_some name (and_parts (is_name name) (not (is_reserved name)) h).0) (line_name_plain name h)

pub numeral_token : (word : Word) → IsNumeral word → is_value_token word ≡ true
numeral_token word n = plain_token word (some n.front word n.is) n.plain where
  some : (front word : Word) → word ≡ front ++ n.digit ∷ [] → is_nil word ≡ false
  some [] word e = ap is_nil e
  some (byte ∷ front) word e = ap is_nil e

-- ---- what is read, is read again

pub record IsBack (relative : Bool) (f : Form) (r : Refused) (v : DeclaredValue) : Type 0 where
  pub reads : value_of relative f (value_words v) ≡ Some v
  pub quiet : is_refused relative r (value_words v) ≡ false
  pub tokens : list_all is_value_token (value_words v) ≡ true

pub anything : {A : Type 0} (o : Option A) → Every (λ _. ⊤) o
anything None = tt
anything (Some x) = tt

alone_told : {A : Type 0} (P : A → Type 0) (read : Word → Option A) (words : List Word) → ((word : Word) → Every P (read word)) → Every P (word_alone read words)
alone_told P read [] h = tt
alone_told P read (word ∷ words) h = every_if P (ended words) (read word) None (λ _. h word) (λ _. tt)

-- the answers of a form of words, each of which is read again
told_by : {A : Type 0} (relative : Bool) (f : Form) (r : Refused) (P : A → Type 0) (make : A → Value) (o : Option A) → Every P o → ((x : A) → P x → IsBack relative f r (plain (make x))) → Every (IsBack relative f r) (option_map plain (option_map make o))
told_by relative f r P make o h k =
    every_map (IsBack relative f r) plain (option_map make o) (every_map (λ v. IsBack relative f r (plain v)) make o (every_so P (λ x. IsBack relative f r (plain (make x))) o k h))

flow_back : (relative column dense : Bool) → IsBack relative form.Flow refused.Nothing (plain (value.Flow column dense))
flow_back true true true = record { reads = refl; quiet = refl; tokens = refl }
flow_back true true false = record { reads = refl; quiet = refl; tokens = refl }
flow_back true false true = record { reads = refl; quiet = refl; tokens = refl }
flow_back true false false = record { reads = refl; quiet = refl; tokens = refl }
flow_back false true true = record { reads = refl; quiet = refl; tokens = refl }
flow_back false true false = record { reads = refl; quiet = refl; tokens = refl }
flow_back false false true = record { reads = refl; quiet = refl; tokens = refl }
flow_back false false false = record { reads = refl; quiet = refl; tokens = refl }

pub flow_told : (relative : Bool) (words : List Word) → Every (IsBack relative form.Flow refused.Nothing) (value_of relative form.Flow words)
flow_told relative words = told_by relative form.Flow refused.Nothing (λ _. ⊤) (λ f. value.Flow f.0 f.1) (flow_of words) (anything (flow_of words)) (λ f _. flow_back relative f.0 f.1)

names_token : (name : Option Word) → IsNamed name → list_all is_value_token (name_words name) ≡ true
names_token None h = refl
names_token (Some name) h = and_from (is_value_token name) true (name_token name h) refl

line_tokens : (l : LineValue) → IsLine l → list_all is_value_token (line_words l) ≡ true
line_tokens line.Auto h = refl
line_tokens (line.Line n name) h = and_from (is_value_token (integer n)) (list_all is_value_token (name_words name)) (numeral_token (integer n) (integer_numeral n h.0.1)) (names_token name h.1)
line_tokens (line.Reach n name) h = and_from (is_value_token (integer (pos n))) (list_all is_value_token (name_words name)) (numeral_token (integer (pos n)) (integer_numeral (pos n) h.0.1)) (names_token name h.1)
line_tokens (line.Named name) h = and_from (is_value_token name) true (name_token name h) refl

pub line_is_back : (relative : Bool) (l : LineValue) → IsLine l → IsBack relative form.Line refused.Nothing (line_value l)
line_is_back relative l h = record { reads = ap (λ (o : Option LineValue). option_map plain (option_map value.Line o)) (line_back l h); quiet = line_quiet relative l h; tokens = line_tokens l h }

pub lines_told : (relative : Bool) (words : List Word) → Every (IsBack relative form.Line refused.Nothing) (value_of relative form.Line words)
lines_told relative words = told_by relative form.Line refused.Nothing IsLine value.Line (one_line words) (line_told words) (line_is_back relative)

order_back : (relative : Bool) (n : ℤ) → unsigned_abs n ≤ 1000000 → IsBack relative form.Order refused.Nothing (plain (value.Order n))
order_back relative n h =
    let w : IsNumeral (integer n) = integer_numeral n h in
    record {
      reads = ap (λ (o : Option ℤ). option_map plain (option_map value.Order o)) (integer_back n h);
      quiet = quiet_word relative refused.Nothing (integer n) [] (quiet_number relative refused.Nothing (integer n) [] (number_starts 1 n (omega (arith, h, div-le_self (unsigned_abs n) 1))) (numeral_not_measured relative (integer n) w) (numeral_no_percent (integer n) w));
      tokens = and_from (is_value_token (integer n)) true (numeral_token (integer n) w) refl;
    }

pub order_told : (relative : Bool) (words : List Word) → Every (IsBack relative form.Order refused.Nothing) (value_of relative form.Order words)
order_told relative words = told_by relative form.Order refused.Nothing (λ n. unsigned_abs n ≤ 1000000) value.Order (word_alone integer_of words) (alone_told (λ n. unsigned_abs n ≤ 1000000) integer_of words integer_told) (order_back relative)

pub factor_is_back : (relative : Bool) (t : ℕ) → t ≤ 10000000 → IsBack relative form.Factor refused.Nothing (plain (value.Factor t))
factor_is_back relative t h =
    let w : IsNumeral (factor t) = factor_numeral t h in
    record {
      reads = ap (λ (o : Option ℕ). option_map plain (option_map value.Factor o)) (factor_back t h);
      quiet = quiet_word relative refused.Nothing (factor t) [] (quiet_number relative refused.Nothing (factor t) [] (number_starts 1000 (pos t) (omega (arith, h, div-le_self t 1000))) (numeral_not_measured relative (factor t) w) (numeral_no_percent (factor t) w));
      tokens = and_from (is_value_token (factor t)) true (numeral_token (factor t) w) refl;
    }

pub factors_told : (relative : Bool) (words : List Word) → Every (IsBack relative form.Factor refused.Nothing) (value_of relative form.Factor words)
factors_told relative words = told_by relative form.Factor refused.Nothing (λ t. t ≤ 10000000) value.Factor (word_alone factor_of words) (alone_told (λ t. t ≤ 10000000) factor_of words factor_told) (factor_is_back relative)

box_back : (relative border : Bool) → IsBack relative form.BoxSizing refused.Nothing (plain (value.BorderBox border))
box_back true true = record { reads = refl; quiet = refl; tokens = refl }
box_back true false = record { reads = refl; quiet = refl; tokens = refl }
box_back false true = record { reads = refl; quiet = refl; tokens = refl }
box_back false false = record { reads = refl; quiet = refl; tokens = refl }

pub box_told : (relative : Bool) (words : List Word) → Every (IsBack relative form.BoxSizing refused.Nothing) (value_of relative form.BoxSizing words)
box_told relative words = told_by relative form.BoxSizing refused.Nothing (λ _. ⊤) value.BorderBox (word_alone (either (codes "content-box") (codes "border-box")) words) (anything (word_alone (either (codes "content-box") (codes "border-box")) words)) (λ b _. box_back relative b)

scroll_back : (relative : Bool) (s : Scroll) → IsBack relative form.Overflow refused.Nothing (plain (value.Overflow s))
scroll_back true scroll.Visible = record { reads = refl; quiet = refl; tokens = refl }
scroll_back true scroll.Clip = record { reads = refl; quiet = refl; tokens = refl }
scroll_back true scroll.Hidden = record { reads = refl; quiet = refl; tokens = refl }
scroll_back true scroll.Scroll = record { reads = refl; quiet = refl; tokens = refl }
scroll_back true scroll.Auto = record { reads = refl; quiet = refl; tokens = refl }
scroll_back false scroll.Visible = record { reads = refl; quiet = refl; tokens = refl }
scroll_back false scroll.Clip = record { reads = refl; quiet = refl; tokens = refl }
scroll_back false scroll.Hidden = record { reads = refl; quiet = refl; tokens = refl }
scroll_back false scroll.Scroll = record { reads = refl; quiet = refl; tokens = refl }
scroll_back false scroll.Auto = record { reads = refl; quiet = refl; tokens = refl }

pub scroll_told : (relative : Bool) (words : List Word) → Every (IsBack relative form.Overflow refused.Nothing) (value_of relative form.Overflow words)
scroll_told relative words = told_by relative form.Overflow refused.Nothing (λ _. ⊤) value.Overflow (word_alone scroll_of words) (anything (word_alone scroll_of words)) (λ s _. scroll_back relative s)

direction_back : (relative column : Bool) → IsBack relative form.Direction refused.Reversed (plain (value.Column column))
direction_back true true = record { reads = refl; quiet = refl; tokens = refl }
direction_back true false = record { reads = refl; quiet = refl; tokens = refl }
direction_back false true = record { reads = refl; quiet = refl; tokens = refl }
direction_back false false = record { reads = refl; quiet = refl; tokens = refl }

pub direction_told : (relative : Bool) (words : List Word) → Every (IsBack relative form.Direction refused.Reversed) (value_of relative form.Direction words)
direction_told relative words = told_by relative form.Direction refused.Reversed (λ _. ⊤) value.Column (word_alone (either (codes "row") (codes "column")) words) (anything (word_alone (either (codes "row") (codes "column")) words)) (λ b _. direction_back relative b)

wrap_back : (relative wrap : Bool) → IsBack relative form.Wrap refused.Reversed (plain (value.Wrap wrap))
wrap_back true true = record { reads = refl; quiet = refl; tokens = refl }
wrap_back true false = record { reads = refl; quiet = refl; tokens = refl }
wrap_back false true = record { reads = refl; quiet = refl; tokens = refl }
wrap_back false false = record { reads = refl; quiet = refl; tokens = refl }

pub wrap_told : (relative : Bool) (words : List Word) → Every (IsBack relative form.Wrap refused.Reversed) (value_of relative form.Wrap words)
wrap_told relative words = told_by relative form.Wrap refused.Reversed (λ _. ⊤) value.Wrap (word_alone (either (codes "nowrap") (codes "wrap")) words) (anything (word_alone (either (codes "nowrap") (codes "wrap")) words)) (λ b _. wrap_back relative b)

mode_token : (m : AlignMode) → is_value_token (mode_word m) ≡ true
mode_token mode.Auto = refl
mode_token mode.Normal = refl
mode_token mode.Stretch = refl
mode_token mode.Start = refl
mode_token mode.End = refl
mode_token mode.Center = refl
mode_token mode.FlexStart = refl
mode_token mode.FlexEnd = refl
mode_token mode.Between = refl
mode_token mode.Around = refl
mode_token mode.Evenly = refl

align_tokens : (m : AlignMode) (safe : Option Bool) → list_all is_value_token (safe_words safe ++ mode_word m ∷ []) ≡ true
align_tokens m None = and_from (is_value_token (mode_word m)) true (mode_token m) refl
align_tokens m (Some true) = and_from (is_value_token (mode_word m)) true (mode_token m) refl
align_tokens m (Some false) = and_from (is_value_token (mode_word m)) true (mode_token m) refl

align_is_back : (relative : Bool) (f : AlignForm) (a : Align) → IsAlign f a → IsBack relative (form.Align f) refused.Baselines (plain (value.Align a))
align_is_back relative f a h = record {
  reads = ap (λ (o : Option Align). option_map plain (option_map value.Align o)) (align_back f a.mode a.safe h);
  quiet = align_quiet relative a.mode a.safe;
  tokens = align_tokens a.mode a.safe;
}

pub aligns_told : (relative : Bool) (f : AlignForm) (words : List Word) → Every (IsBack relative (form.Align f) refused.Baselines) (value_of relative (form.Align f) words)
aligns_told relative f words = told_by relative (form.Align f) refused.Baselines (IsAlign f) value.Align (align_of f words) (align_told f words) (align_is_back relative f)

-- ---- sizes

abbrev pub NotTemplate : Refused → Type 0
NotTemplate refused.Template = ⊥
NotTemplate r = ⊤

refused_is : (relative : Bool) (r : Refused) (words : List Word) → NotTemplate r → is_refused relative r words ≡ holds_refused false relative r words
refused_is relative refused.Nothing words h = refl
refused_is relative refused.Template words h = absurd h
refused_is relative refused.Baselines words h = refl
refused_is relative refused.Contents words h = refl
refused_is relative refused.Percentages words h = refl
refused_is relative refused.Reversed words h = refl

size_token : (relative : Bool) (f : SizeForm) (s : Size) (u : Option Unit) → IsSize relative f s u → is_value_token (size_word s (units_of u)) ≡ true
size_token relative f size.Auto None h = refl
size_token relative f size.Absent None h = refl
size_token relative f size.Normal None h = refl
size_token relative f size.Content None h = refl
size_token relative f (size.Percent t) None h = plain_token (percentage t) (starts_some (percentage t) (percent_starts t (omega (arith, h.1)))) (percent_plain t h.1)
size_token relative f (size.Length px) (Some u) h = plain_token (length_word px u) (starts_some (length_word px u) (length_starts relative f.below_zero px u h)) (length_plain relative f.below_zero px u h)
size_token relative f size.Auto (Some u) h = absurd h
size_token relative f size.Absent (Some u) h = absurd h
size_token relative f size.Normal (Some u) h = absurd h
size_token relative f size.Content (Some u) h = absurd h
size_token relative f (size.Percent t) (Some u) h = absurd h
size_token relative f (size.Length px) None h = absurd h

pub size_is_back : (relative : Bool) (f : SizeForm) (r : Refused) → (f.percent ≡ true → AllowsPercent r) → NotTemplate r → (m : Measured) → IsMeasured relative f m → IsBack relative (form.Size f) r (size_value m)
size_is_back relative f r a n m h = record {
  reads = ap (option_map size_value) (one_size_back relative f m h);
  quiet = refused_is relative r (size_word m.size (units_of m.unit) ∷ []) n ∙ size_quiet relative f r m.size m.unit a h;
  tokens = and_from (is_value_token (size_word m.size (units_of m.unit))) true (size_token relative f m.size m.unit h) refl;
}

pub sizes_told : (relative : Bool) (f : SizeForm) (r : Refused) → (f.percent ≡ true → AllowsPercent r) → NotTemplate r → (words : List Word) → Every (IsBack relative (form.Size f) r) (value_of relative (form.Size f) words)
sizes_told relative f r a n words = every_map (IsBack relative (form.Size f) r) size_value (one_size relative f words) (every_so (IsMeasured relative f) (λ m. IsBack relative (form.Size f) r (size_value m)) (one_size relative f words) (size_is_back relative f r a n) (one_size_told relative f words))
