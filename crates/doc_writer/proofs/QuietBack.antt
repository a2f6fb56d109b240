-- Words that make no value unsupported.
use Rattle.std.proofs.Common.{◌≡◌, ℕ, zero, suc, ℤ, pos, negsuc, ◌+◌, ◌-◌, ◌/◌, ◌^◌, ◌<◌, ◌≤◌, Bool, true, false, not, ◌&&◌, ◌||◌, ◌==◌, nat_le, nat_lt, ◌%◌, unsigned_abs, List, [], ◌∷◌, ◌++◌, length, take, drop, decimal, refl, ap, sym, ◌∙◌, arith, if◌then◌else◌, Option, Some, None, codes}
use Rattle.std.specs.Prelude.{⊤}
use Rattle.std.specs.List.{list_all, list_any, position_or_len}
use Rattle.std.specs.Option.{option_map, is_none}
use Rattle.std.specs.Str.{bytes_eq}
use Rattle.std.proofs.lemmas.Bool.{and_parts, eqb-true, true≢false, not-true, agree_below_at, false_from_ne_true, and_left, and_right, or_left, leb-true}
use Rattle.std.proofs.lemmas.Fmt.{digits_decimal, decimal_nonempty}
use Rattle.std.proofs.lemmas.Slice.Eq.{bytes_eq-Decides}
use Rattle.lunit.specs.Names.{between, begins_name, continues_name, is_name}
use Rattle.lunit.specs.Decimals.{Decimal, is_digit, is_sign, is_point, all_digits, number_of, is_number, whole_part, decimal_part, decimal_of, decimal_or_none, read_number}
use Rattle.lunit.specs.Forms.{percentages}
use Rattle.lunit.specs.Printed.{minus_of}
use Rattle.lunit.proofs.Numerals.{own}
use Rattle.style_types.specs.declared.unit.Unit.{Unit}
use Rattle.track_text.specs.declared.side.Side.TheVariants as side
use Rattle.track_text.specs.Words.{Word, begins_with}
use Rattle.track_text.specs.Values.{ends_in, before, length_in, percentage_of}
use Rattle.track_text.specs.TrackSizes.{length_side}
use Rattle.track_text.specs.NameSets.{is_reserved, is_line_name}
use Rattle.track_text.specs.Unsupported.{is_one_of, wide_keywords, functions, units, has_unit, is_measured}
use Rattle.track_text.proofs.Suffixes.{argument_not}
use Rattle.value_text.specs.declared.form.Refused.{Refused}
use Rattle.value_text.specs.declared.form.Refused.TheVariants as refused
use Rattle.value_text.specs.Refusals.{baselines, contents, reversed, refuses, holds_refused}
use Rattle.doc_writer.specs.Numbers.{decimals, number, percentage, length_word}
use Rattle.doc_writer.specs.Spaces.{last_or}
use Rattle.doc_writer.proofs.Kept.{last-append}
use Rattle.doc_writer.proofs.NumbersBack.{number_parts}
use Rattle.doc_writer.proofs.WordsBack.{is_nil}
use Rattle.doc_writer.proofs.LengthsBack.{IsLength, IsNumeral, length_back, no_percent, percent_back, is_percent}

-- ---- the first byte of a number

-- the word begins with a digit or `-`
abbrev pub starts : Word → Bool
starts [] = false
starts (byte ∷ bytes) = is_digit byte || byte == 45

pub starts_more : (word more : Word) → starts word ≡ true → starts (word ++ more) ≡ true
starts_more [] more h = absurd (true≢false (sym h))
starts_more (byte ∷ bytes) more h = h

pub starts_some : (word : Word) → starts word ≡ true → is_nil word ≡ false
starts_some [] h = absurd (true≢false (sym h))
starts_some (byte ∷ bytes) h = refl

digits_start : (ds more : Word) → all_digits ds ≡ true → 0 < length ds → starts (ds ++ more) ≡ true
digits_start [] more h s = absurd (omega (arith, s))
digits_start (d ∷ ds) more h s = or_left (is_digit d) (d == 45) (and_parts (is_digit d) (all_digits ds) h).0

pub number_starts : (scale : ℕ) (z : ℤ) → unsigned_abs z / scale < 2 ^ 64 → starts (number scale z) ≡ true
number_starts scale z small = ap starts (number_parts scale z) ∙ by_sign z (decimal w) (digits_decimal own w small) (decimal_nonempty w small) where
  w : ℕ
  w = unsigned_abs z / scale

  f : Word
  f = decimals scale (unsigned_abs z % scale)

  by_sign : (z : ℤ) (ds : Word) → all_digits ds ≡ true → 0 < length ds → starts ((minus_of z ++ ds) ++ f) ≡ true
  by_sign (pos n) ds h s = digits_start ds f h s
  by_sign (negsuc n) ds h s = refl

pub starts_not : (word due : Word) → starts word ≡ true → starts due ≡ false → bytes_eq word due ≡ false
starts_not word due s n = false_from_ne_true (bytes_eq word due) (λ e. true≢false (sym s ∙ ap starts ((bytes_eq-Decides word due).0 e) ∙ n))

pub none_starts : (word : Word) (dues : List Word) → starts word ≡ true → list_all (λ due. not (starts due)) dues ≡ true → is_one_of dues word ≡ false
none_starts word [] s h = refl
none_starts word (due ∷ dues) s h =
    let parts = and_parts (not (starts due)) (list_all (λ due. not (starts due)) dues) h in
    ap (λ (b : Bool). b || is_one_of dues word) (starts_not word due s (not-true (starts due) parts.0)) ∙ none_starts word dues s parts.1

-- ---- the first byte of a name

-- a byte that begins no number
abbrev no_number : ℕ → Bool
no_number byte = not (is_digit byte) && (not (is_sign byte) && not (is_point byte))

pub not_number : (byte : ℕ) (bytes : List ℕ) → no_number byte ≡ true → number_of (byte ∷ bytes) ≡ None
not_number byte bytes h =
    let parts = and_parts (not (is_digit byte)) (not (is_sign byte) && not (is_point byte)) h in
    let more = and_parts (not (is_sign byte)) (not (is_point byte)) parts.1 in
    let n : 1 + position_or_len is_point bytes ≡ suc (position_or_len is_point bytes) = omega arith in
    let whole : all_digits (whole_part (byte ∷ bytes)) ≡ false =
    ap (λ (b : Bool). all_digits (take (if b then 1 + position_or_len is_point bytes else 0) (byte ∷ bytes))) more.1
    ∙ ap (λ (k : ℕ). all_digits (take k (byte ∷ bytes))) n
    ∙ and_left (is_digit byte) (all_digits (take (position_or_len is_point bytes) bytes)) (not-true (is_digit byte) parts.0) in
    ap (λ (b : Bool). decimal_or_none (byte == 45) (whole_part (if b then bytes else byte ∷ bytes)) (decimal_part (if b then bytes else byte ∷ bytes))) (not-true (is_sign byte) more.0)
    ∙ ap (λ (b : Bool). if (b && all_digits (decimal_part (byte ∷ bytes))) && nat_lt 0 (length (whole_part (byte ∷ bytes)) + length (decimal_part (byte ∷ bytes))) then Some (decimal_of (byte == 45) (whole_part (byte ∷ bytes)) (decimal_part (byte ∷ bytes))) else None) whole

not_after : (byte : ℕ) (bytes : List ℕ) (k : ℕ) → no_number byte ≡ true → is_number (take k (byte ∷ bytes)) ≡ false
not_after byte bytes zero h = refl
not_after byte bytes (suc k) h = ap (λ (d : Option Decimal). not (is_none d)) (not_number byte (take k bytes) h)

none_has_unit : (byte : ℕ) (bytes : List ℕ) (all : List Word) → no_number byte ≡ true → list_any (has_unit (byte ∷ bytes)) all ≡ false
none_has_unit byte bytes [] h = refl
none_has_unit byte bytes (unit ∷ all) h =
    ap (λ (b : Bool). b || list_any (has_unit (byte ∷ bytes)) all) (and_right (ends_in unit (byte ∷ bytes)) (is_number (before unit (byte ∷ bytes))) (not_after byte bytes (length (byte ∷ bytes) - length unit) h))
    ∙ none_has_unit byte bytes all h

pub letters_not_measured : (relative : Bool) (byte : ℕ) (bytes : List ℕ) → no_number byte ≡ true → is_measured relative (byte ∷ bytes) ≡ false
letters_not_measured relative byte bytes h = none_has_unit byte bytes (units relative) h

abbrev name_start : ℕ → Bool
name_start byte = not (begins_name byte) || no_number byte

begins_below : (byte : ℕ) → begins_name byte ≡ true → byte < 123
begins_below byte h = by_case (between 97 122 byte) refl where
  high : (low most : ℕ) → most < 123 → between low most byte ≡ true → byte < 123
  high low most m e = omega (arith, m, leb-true byte most (and_parts (nat_le low byte) (nat_le byte most) e).1)

  by_upper : (b : Bool) → between 65 90 byte ≡ b → (b || byte == 95) ≡ true → byte < 123
  by_upper true e k = high 65 90 (omega arith) e
  by_upper false e k = omega (arith, eqb-true byte 95 k)

  by_case : (b : Bool) → between 97 122 byte ≡ b → byte < 123
  by_case true e = high 97 122 (omega arith) e
  by_case false e = by_upper (between 65 90 byte) refl (ap (λ (b : Bool). b || (between 65 90 byte || byte == 95)) (sym e) ∙ h)

pub name_no_number : (byte : ℕ) → begins_name byte ≡ true → no_number byte ≡ true
name_no_number byte h = ap (λ (b : Bool). not b || no_number byte) (sym h) ∙ agree_below_at name_start (λ _. true) 123 byte refl (begins_below byte h)

pub name_first_byte : (byte : ℕ) (bytes : List ℕ) → is_line_name (byte ∷ bytes) ≡ true → begins_name byte ≡ true
name_first_byte byte bytes h =
    let a = and_parts (is_name (byte ∷ bytes)) (not (is_reserved (byte ∷ bytes))) h in
    let b = and_parts (begins_name byte && list_all continues_name bytes) (nat_le (length (byte ∷ bytes)) 58) a.0 in
    (and_parts (begins_name byte) (list_all continues_name bytes) b.0).0

pub name_is_no_number : (name : Word) → is_line_name name ≡ true → number_of name ≡ None
name_is_no_number [] h = absurd (true≢false (sym h))
name_is_no_number (byte ∷ bytes) h = not_number byte bytes (name_no_number byte (name_first_byte byte bytes h))

pub name_not_measured : (relative : Bool) (name : Word) → is_line_name name ≡ true → is_measured relative name ≡ false
name_not_measured relative [] h = absurd (true≢false (sym h))
name_not_measured relative (byte ∷ bytes) h = letters_not_measured relative byte bytes (name_no_number byte (name_first_byte byte bytes h))

-- a word that is no name is not this one
pub name_not : (name due : Word) → is_line_name name ≡ true → is_line_name due ≡ false → bytes_eq name due ≡ false
name_not name due h n = false_from_ne_true (bytes_eq name due) (λ e. true≢false (sym h ∙ ap is_line_name ((bytes_eq-Decides name due).0 e) ∙ n))

pub names_not : (name : Word) (dues : List Word) → is_line_name name ≡ true → list_all (λ due. not (is_line_name due)) dues ≡ true → is_one_of dues name ≡ false
names_not name [] h n = refl
names_not name (due ∷ dues) h n =
    let parts = and_parts (not (is_line_name due)) (list_all (λ due. not (is_line_name due)) dues) n in
    ap (λ (b : Bool). b || is_one_of dues name) (name_not name due h (not-true (is_line_name due) parts.0)) ∙ names_not name dues h parts.1

-- ---- words without a unit

abbrev no_digit_end : Word → Bool
no_digit_end unit = not (is_nil unit) && not (is_digit (last_or 0 unit))

drop_end : (k : ℕ) (word : Word) → (is_nil (drop k word) ≡ false) → last_or 0 (drop k word) ≡ last_or 0 word
drop_end zero word h = refl
drop_end (suc k) [] h = refl
drop_end (suc k) (byte ∷ []) h = absurd (true≢false (sym (nothing k) ∙ h)) where
  nothing : (k : ℕ) → is_nil (drop k []) ≡ true
  nothing zero = refl
  nothing (suc k) = refl
drop_end (suc k) (byte ∷ next ∷ bytes) h = drop_end k (next ∷ bytes) h

no_unit_end : (word unit : Word) → is_digit (last_or 0 word) ≡ true → no_digit_end unit ≡ true → ends_in unit word ≡ false
no_unit_end word unit d h = false_from_ne_true (ends_in unit word) wrong where
  k : ℕ
  k = length word - length unit

  wrong : ends_in unit word ≡ true → ⊥
  wrong e =
      let same : drop k word ≡ unit = (bytes_eq-Decides (drop k word) unit).0 e in
      let parts = and_parts (not (is_nil unit)) (not (is_digit (last_or 0 unit))) h in
      let end : last_or 0 unit ≡ last_or 0 word = ap (last_or 0) (sym same) ∙ drop_end k word (ap is_nil same ∙ not-true (is_nil unit) parts.0) in
      true≢false (sym d ∙ ap is_digit (sym end) ∙ not-true (is_digit (last_or 0 unit)) parts.1)

no_units_end : (word : Word) (all : List Word) → is_digit (last_or 0 word) ≡ true → list_all no_digit_end all ≡ true → list_any (has_unit word) all ≡ false
no_units_end word [] d h = refl
no_units_end word (unit ∷ all) d h =
    let parts = and_parts (no_digit_end unit) (list_all no_digit_end all) h in
    ap (λ (b : Bool). b || list_any (has_unit word) all) (and_left (ends_in unit word) (is_number (before unit word)) (no_unit_end word unit d parts.0)) ∙ no_units_end word all d parts.1

pub numeral_not_measured : (relative : Bool) (word : Word) → IsNumeral word → is_measured relative word ≡ false
numeral_not_measured relative word n = no_units_end word (units relative) (ap (λ (w : Word). is_digit (last_or 0 w)) n.is ∙ ap is_digit (last-append 0 n.front (n.digit ∷ [])) ∙ n.ok) (by_version relative) where
  by_version : (b : Bool) → list_all no_digit_end (units b) ≡ true
  by_version true = refl
  by_version false = refl

pub numeral_no_percent : (word : Word) → IsNumeral word → ends_in (codes "%") word ≡ false
numeral_no_percent word n = no_unit_end word (codes "%") (ap (λ (w : Word). is_digit (last_or 0 w)) n.is ∙ ap is_digit (last-append 0 n.front (n.digit ∷ [])) ∙ n.ok) refl

pub numeral_no_px : (word : Word) → IsNumeral word → ends_in (codes "px") word ≡ false
numeral_no_px word n = no_unit_end word (codes "px") (ap (λ (w : Word). is_digit (last_or 0 w)) n.is ∙ ap is_digit (last-append 0 n.front (n.digit ∷ [])) ∙ n.ok) refl

pub length_not_measured : (relative below : Bool) (px : ℤ) (u : Unit) → IsLength relative below px u → is_measured relative (length_word px u) ≡ false
length_not_measured relative true px u h = argument_not relative true (length_word px u) (side.Length px u)
    (ap (λ (b : Bool). if b then option_map side.Percent (percentage_of (length_word px u)) else option_map length_side (length_in relative true (length_word px u))) (no_percent px u)
    ∙ ap (option_map length_side) (length_back relative true px u h))
length_not_measured relative false px u h = argument_not relative false (length_word px u) (side.Length px u)
    (ap (λ (b : Bool). if b then option_map side.Percent (percentage_of (length_word px u)) else option_map length_side (length_in relative false (length_word px u))) (no_percent px u)
    ∙ ap (option_map length_side) (length_back relative false px u h))

pub percent_not_measured : (relative : Bool) (t : ℕ) → t ≤ 1000000 → is_measured relative (percentage t) ≡ false
percent_not_measured relative t h = argument_not relative false (percentage t) (side.Percent t)
    (ap (λ (b : Bool). if b then option_map side.Percent (percentage_of (percentage t)) else option_map length_side (length_in relative false (percentage t))) (is_percent t)
    ∙ ap (option_map side.Percent) (percent_back t h))

-- ---- words that are passed over

-- a word before these that makes no value unsupported
pub record IsQuiet (relative : Bool) (r : Refused) (word : Word) (rest : List Word) : Type 0 where
  pub wide : is_one_of wide_keywords word ≡ false
  pub measured : is_measured relative word ≡ false
  pub function : (is_one_of functions word && begins_with (codes "(") rest) ≡ false
  pub not_refused : refuses r word ≡ false
  pub bracket : bytes_eq word (codes "[") ≡ false

pub quiet_word : (relative : Bool) (r : Refused) (word : Word) (rest : List Word) → IsQuiet relative r word rest → holds_refused false relative r (word ∷ rest) ≡ holds_refused false relative r rest
quiet_word relative r word rest q = by_tests (is_one_of wide_keywords word) (is_measured relative word) (is_one_of functions word && begins_with (codes "(") rest) (refuses r word) (bytes_eq word (codes "[")) q.wide q.measured q.function q.not_refused q.bracket where
  by_tests : (w m f n b : Bool) → w ≡ false → m ≡ false → f ≡ false → n ≡ false → b ≡ false → (((w || (m || f)) || n) || holds_refused b relative r rest) ≡ holds_refused false relative r rest
  by_tests w m f n b wh mh fh nh bh = rw (wh, mh, fh, nh, bh) refl

-- ---- what each property refuses

number_allowed : (r : Refused) (word : Word) → starts word ≡ true → ends_in (codes "%") word ≡ false → refuses r word ≡ false
number_allowed refused.Nothing word s p = refl
number_allowed refused.Template word s p = refl
number_allowed refused.Baselines word s p = none_starts word baselines s refl
number_allowed refused.Contents word s p = none_starts word contents s refl
number_allowed refused.Percentages word s p = ap (λ (b : Bool). not (is_none (option_map unsigned_abs (if b then read_number percentages (before (codes "%") word) else None)))) p
number_allowed refused.Reversed word s p = none_starts word reversed s refl

-- percentages are allowed
abbrev pub AllowsPercent : Refused → Type 0
AllowsPercent refused.Percentages = ⊥
AllowsPercent r = ⊤

percent_allowed : (r : Refused) (word : Word) → starts word ≡ true → AllowsPercent r → refuses r word ≡ false
percent_allowed refused.Nothing word s p = refl
percent_allowed refused.Template word s p = refl
percent_allowed refused.Baselines word s p = none_starts word baselines s refl
percent_allowed refused.Contents word s p = none_starts word contents s refl
percent_allowed refused.Percentages word s p = absurd p
percent_allowed refused.Reversed word s p = none_starts word reversed s refl

pub quiet_number : (relative : Bool) (r : Refused) (word : Word) (rest : List Word) → starts word ≡ true → is_measured relative word ≡ false → ends_in (codes "%") word ≡ false → IsQuiet relative r word rest
quiet_number relative r word rest s m p = record {
  wide = none_starts word wide_keywords s refl;
  measured = m;
  function = and_left (is_one_of functions word) (begins_with (codes "(") rest) (none_starts word functions s refl);
  not_refused = number_allowed r word s p;
  bracket = starts_not word (codes "[") s refl;
}

pub quiet_percent : (relative : Bool) (r : Refused) (word : Word) (rest : List Word) → starts word ≡ true → is_measured relative word ≡ false → AllowsPercent r → IsQuiet relative r word rest
quiet_percent relative r word rest s m p = record {
  wide = none_starts word wide_keywords s refl;
  measured = m;
  function = and_left (is_one_of functions word) (begins_with (codes "(") rest) (none_starts word functions s refl);
  not_refused = percent_allowed r word s p;
  bracket = starts_not word (codes "[") s refl;
}

pub quiet_name : (relative : Bool) (name : Word) (rest : List Word) → is_line_name name ≡ true → begins_with (codes "(") rest ≡ false → IsQuiet relative refused.Nothing name rest
quiet_name relative name rest h b = record {
  wide = names_not name wide_keywords h refl;
  measured = name_not_measured relative name h;
  function = and_right (is_one_of functions name) (begins_with (codes "(") rest) b;
  not_refused = refl;
  bracket = name_not name (codes "[") h refl;
}
