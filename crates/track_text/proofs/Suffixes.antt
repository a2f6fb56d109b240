-- A word that stands for a breadth is not measured in a unit that is unsupported.
use Rattle.std.proofs.Common.{◌≡◌, ℕ, zero, suc, ◌+◌, ◌-◌, ◌≤◌, nat_le, nat_lt, ℤ, cond, Bool, true, false, not, ◌&&◌, ◌||◌, List, [], ◌∷◌, take, drop, length, ap, refl, sym, ◌∙◌, arith, if◌then◌else◌, Option, Some, None, is_some, codes}
use Rattle.std.proofs.lemmas.List.{drop-drop, length-drop}
use Rattle.std.proofs.lemmas.Bool.{true≢false, leb-true}
use Rattle.std.proofs.lemmas.Slice.Eq.{bytes_eq-Decides}
use Rattle.std.specs.List.{list_all, list_any, position_or_len}
use Rattle.std.specs.Option.{is_none, option_map}
use Rattle.std.specs.Str.{bytes_eq}
use Rattle.lunit.specs.declared.number.NumberForm.{NumberForm}
use Rattle.lunit.specs.Decimals.{Decimal, is_digit, is_sign, is_point, all_digits, has_minus, whole_part, decimal_part, are_parts, decimal_of, decimal_or_none, number_of, is_number, read_allowed, read_number}
use Rattle.lunit.specs.Forms.{zeros}
use Rattle.track_text.specs.declared.side.Side.{Side}
use Rattle.track_text.specs.declared.side.Side.TheVariants as side
use Rattle.track_text.specs.Words.{Word}
use Rattle.style_types.specs.declared.unit.Unit.{Unit}
use Rattle.track_text.specs.Values.{in_px, zero_of, relative_of, ends_in, before, length_in, percentage_of}
use Rattle.track_text.specs.TrackSizes.{breadth_of, length_or_percentage, length_side}
use Rattle.track_text.specs.Unsupported.{begins_number, has_unit, in_number, units, is_measured}

abbrev last_two : Word → Word
last_two word = drop (length word - 2) word

-- two words with one end have the last two bytes of it
same_end : (unit word : Word) → 2 ≤ length unit → ends_in unit word ≡ true → last_two word ≡ last_two unit
same_end unit word h e =
    let end : drop (length word - length unit) word ≡ unit = (bytes_eq-Decides (drop (length word - length unit) word) unit).0 e in
    let n : length word - (length word - length unit) ≡ length unit = sym (length-drop (length word - length unit) word) ∙ ap length end in
    let k : length word - 2 ≡ (length word - length unit) + (length unit - 2) = omega (arith, n, h) in
    ap (λ (i : ℕ). drop i word) k ∙ sym (drop-drop (length unit - 2) (length word - length unit) word) ∙ ap (drop (length unit - 2)) end

and_parts : (a b : Bool) → (a && b) ≡ true → (a ≡ true) × (b ≡ true)
and_parts true b h = (refl, h)
and_parts false b h = elim (true≢false (sym h)) [ ]

-- an end that is none of the units'
abbrev is_other : (Word → Bool) → Word → Bool
is_other ok unit = nat_le 2 (length unit) && not (ok (last_two unit))

other_unit : (ok : Word → Bool) (unit word : Word) → ok (last_two word) ≡ true → is_other ok unit ≡ true → has_unit word unit ≡ false
other_unit ok unit word o h = by_test (ends_in unit word) refl where
  not_true : (b : Bool) → not b ≡ true → b ≡ false
  not_true true h = sym h
  not_true false h = refl

  by_test : (b : Bool) → ends_in unit word ≡ b → (b && is_number (before unit word)) ≡ false
  by_test true e = elim (true≢false (sym o ∙ ap ok (same_end unit word (leb-true 2 (length unit) ((and_parts (nat_le 2 (length unit)) (not (ok (last_two unit))) h).0)) e) ∙ not_true (ok (last_two unit)) ((and_parts (nat_le 2 (length unit)) (not (ok (last_two unit))) h).1))) [ ]
  by_test false e = refl

other_units : (ok : Word → Bool) (word : Word) (units : List Word) → ok (last_two word) ≡ true → list_all (is_other ok) units ≡ true → list_any (has_unit word) units ≡ false
other_units ok word [] o h = refl
other_units ok word (unit ∷ units) o h =
    ap (λ (b : Bool). b || list_any (has_unit word) units) (other_unit ok unit word o (and_parts (is_other ok unit) (list_all (is_other ok) units) h).0)
    ∙ other_units ok word units o (and_parts (is_other ok unit) (list_all (is_other ok) units) h).1

-- ---- numbers have no letters

or_right : (a b : Bool) → b ≡ true → (a || b) ≡ true
or_right true b h = refl
or_right false b h = h

or_left : (a b : Bool) → a ≡ true → (a || b) ≡ true
or_left true b h = refl
or_left false b h = elim (true≢false (sym h)) [ ]

both : (a b : Bool) → a ≡ true → b ≡ true → (a && b) ≡ true
both true b h k = k
both false b h k = h

digit_in : (byte : ℕ) → is_digit byte ≡ true → in_number byte ≡ true
digit_in byte h = or_right (is_sign byte) (is_digit byte || is_point byte) (or_left (is_digit byte) (is_point byte) h)

digits_in : (bytes : List ℕ) → all_digits bytes ≡ true → list_all in_number bytes ≡ true
digits_in [] h = refl
digits_in (byte ∷ bytes) h = both (in_number byte) (list_all in_number bytes) (digit_in byte (and_parts (is_digit byte) (all_digits bytes) h).0) (digits_in bytes (and_parts (is_digit byte) (all_digits bytes) h).1)

parts_in : (text : List ℕ) → all_digits (whole_part text) ≡ true → all_digits (decimal_part text) ≡ true → list_all in_number text ≡ true
parts_in [] w d = refl
parts_in (byte ∷ bytes) w d = by_test (is_point byte) refl (parts_in bytes) where
  by_test : (b : Bool) → is_point byte ≡ b → (all_digits (whole_part bytes) ≡ true → all_digits (decimal_part bytes) ≡ true → list_all in_number bytes ≡ true) → list_all in_number (byte ∷ bytes) ≡ true
  by_test true e more =
      let digits : all_digits bytes ≡ true = ap (λ (b : Bool). all_digits (drop (cond (not b) (1 + position_or_len is_point bytes) 0 + 1) (byte ∷ bytes))) (sym e) ∙ d in
      both (in_number byte) (list_all in_number bytes) (or_right (is_sign byte) (is_digit byte || is_point byte) (or_right (is_digit byte) (is_point byte) e)) (digits_in bytes digits)
  by_test false e more =
      let n : 1 + position_or_len is_point bytes ≡ suc (position_or_len is_point bytes) = omega arith in
      let m : (1 + position_or_len is_point bytes) + 1 ≡ suc (position_or_len is_point bytes + 1) = omega arith in
      let front : (is_digit byte && all_digits (whole_part bytes)) ≡ true =
      ap (λ (k : ℕ). all_digits (take k (byte ∷ bytes))) (sym n) ∙ ap (λ (b : Bool). all_digits (take (cond (not b) (1 + position_or_len is_point bytes) 0) (byte ∷ bytes))) (sym e) ∙ w in
      let back : all_digits (decimal_part bytes) ≡ true =
      ap (λ (k : ℕ). all_digits (drop k (byte ∷ bytes))) (sym m) ∙ ap (λ (b : Bool). all_digits (drop (cond (not b) (1 + position_or_len is_point bytes) 0 + 1) (byte ∷ bytes))) (sym e) ∙ d in
      both (in_number byte) (list_all in_number bytes) (digit_in byte (and_parts (is_digit byte) (all_digits (whole_part bytes)) front).0) (more (and_parts (is_digit byte) (all_digits (whole_part bytes)) front).1 back)

none_some : {A B : Type 0} (x : A) → None ≡ Some x → B
none_some x e = elim (true≢false (sym (ap is_some e))) [ ]

unsigned_in : (negative : Bool) (text : List ℕ) (d : Decimal) → decimal_or_none negative (whole_part text) (decimal_part text) ≡ Some d → list_all in_number text ≡ true
unsigned_in negative text d e = by_test (are_parts (whole_part text) (decimal_part text)) refl where
  by_test : (b : Bool) → are_parts (whole_part text) (decimal_part text) ≡ b → list_all in_number text ≡ true
  by_test true t =
      let digits : (all_digits (whole_part text) && all_digits (decimal_part text)) ≡ true = (and_parts (all_digits (whole_part text) && all_digits (decimal_part text)) (nat_lt 0 (length (whole_part text) + length (decimal_part text))) t).0 in
      parts_in text (and_parts (all_digits (whole_part text)) (all_digits (decimal_part text)) digits).0 (and_parts (all_digits (whole_part text)) (all_digits (decimal_part text)) digits).1
  by_test false t = none_some d (sym (ap (λ (b : Bool). if b then Some (decimal_of negative (whole_part text) (decimal_part text)) else None) t) ∙ e)

number_in : (text : List ℕ) (d : Decimal) → number_of text ≡ Some d → list_all in_number text ≡ true
number_in [] d e = refl
number_in (byte ∷ bytes) d e = by_sign (is_sign byte) refl where
  by_sign : (b : Bool) → is_sign byte ≡ b → list_all in_number (byte ∷ bytes) ≡ true
  by_sign true t = both (in_number byte) (list_all in_number bytes) (or_left (is_sign byte) (is_digit byte || is_point byte) t)
      (unsigned_in (has_minus (byte ∷ bytes)) bytes d (ap (λ (b : Bool). decimal_or_none (has_minus (byte ∷ bytes)) (whole_part (if b then bytes else byte ∷ bytes)) (decimal_part (if b then bytes else byte ∷ bytes))) (sym t) ∙ e))
  by_sign false t = unsigned_in (has_minus (byte ∷ bytes)) (byte ∷ bytes) d (ap (λ (b : Bool). decimal_or_none (has_minus (byte ∷ bytes)) (whole_part (if b then bytes else byte ∷ bytes)) (decimal_part (if b then bytes else byte ∷ bytes))) (sym t) ∙ e)

all_dropped : (k : ℕ) (bytes : List ℕ) → list_all in_number bytes ≡ true → list_all in_number (drop k bytes) ≡ true
all_dropped zero bytes h = h
all_dropped (suc k) [] h = refl
all_dropped (suc k) (byte ∷ bytes) h = all_dropped k bytes (and_parts (in_number byte) (list_all in_number bytes) h).1

none_is_number : (word : Word) (all : List Word) (d : Decimal) → number_of word ≡ Some d → list_all (is_other (list_all in_number)) all ≡ true → list_any (has_unit word) all ≡ false
none_is_number word all d n h = other_units (list_all in_number) word all (all_dropped (length word - 2) word (number_in word d n)) h

-- what ends so has none of the units
ends_so : (ok : Word → Bool) (relative : Bool) (word : Word) → ok (last_two word) ≡ true → ((b : Bool) → list_all (is_other ok) (units b) ≡ true) → is_measured relative word ≡ false
ends_so ok relative word o h = other_units ok word (units relative) o (h relative)

number_not : (form : NumberForm) (relative : Bool) (word : Word) (z : ℤ) → read_number form word ≡ Some z → is_measured relative word ≡ false
number_not form relative word z e = by_number (number_of word) refl where
  by_number : (d : Option Decimal) → number_of word ≡ d → is_measured relative word ≡ false
  by_number None n = none_some z (sym (ap (read_allowed form) n) ∙ e)
  by_number (Some d) n = none_is_number word (units relative) d n (all_other relative) where
    all_other : (b : Bool) → list_all (is_other (list_all in_number)) (units b) ≡ true
    all_other true = refl
    all_other false = refl

-- ---- breadths

percent_end : (word : Word) → ends_in (codes "%") word ≡ true → ends_in (codes "%") (last_two word) ≡ true
percent_end word h =
    let n : length (last_two word) ≡ length word - (length word - 2) = length-drop (length word - 2) word in
    let k : (length word - 2) + (length (last_two word) - 1) ≡ length word - 1 = omega (arith, n) in
    ap (λ (w : Word). bytes_eq w (codes "%")) (drop-drop (length (last_two word) - 1) (length word - 2) word ∙ ap (λ (i : ℕ). drop i word) k) ∙ h

mapped : {A B : Type 0} (f : A → B) (x : Option A) (y : B) (goal : Type 0) → option_map f x ≡ Some y → ((a : A) → x ≡ Some a → goal) → goal
mapped f None y goal e h = none_some y e
mapped f (Some a) y goal e h = h a refl

abbrev Length : Type 0
Length = ℤ × Unit

zero_not : (relative : Bool) (word : Word) (length : Length) → zero_of word ≡ Some length → is_measured relative word ≡ false
zero_not relative word length e = mapped in_px (read_number zeros word) length (is_measured relative word ≡ false) e (number_not zeros relative word)

px_other : (b : Bool) → list_all (is_other (λ x. bytes_eq x (codes "px"))) (units b) ≡ true
px_other true = refl
px_other false = refl

-- the last two bytes of a word that ends in a longer unit
longer_end : (unit word : Word) → 2 ≤ length unit → bytes_eq (last_two unit) (codes "em") ≡ true → ends_in unit word ≡ true → bytes_eq (last_two word) (codes "em") ≡ true
longer_end unit word h e k = ap (λ (w : Word). bytes_eq w (codes "em")) (same_end unit word h k) ∙ e

relative_not : (below_zero : Bool) (word : Word) (length : Length) → relative_of below_zero word ≡ Some length → is_measured true word ≡ false
relative_not below_zero word length e = by_rem (ends_in (codes "rem") word) refl where
  by_em : ends_in (codes "rem") word ≡ false → (b : Bool) → ends_in (codes "em") word ≡ b → is_measured true word ≡ false
  by_em r true t = other_units (λ x. bytes_eq x (codes "em")) word (units true) (longer_end (codes "em") word (omega arith) refl t) refl
  by_em r false t = zero_not true word length (sym (rest r t) ∙ e) where
    rest : ends_in (codes "rem") word ≡ false → ends_in (codes "em") word ≡ false → relative_of below_zero word ≡ zero_of word
    rest r t = rw (r, t) refl

  by_rem : (b : Bool) → ends_in (codes "rem") word ≡ b → is_measured true word ≡ false
  by_rem true t = other_units (λ x. bytes_eq x (codes "em")) word (units true) (longer_end (codes "rem") word (omega arith) refl t) refl
  by_rem false t = by_em t (ends_in (codes "em") word) refl

length_not : (relative below_zero : Bool) (word : Word) (length : Length) → length_in relative below_zero word ≡ Some length → is_measured relative word ≡ false
length_not relative below_zero word length e = by_test (ends_in (codes "px") word) refl where
  by_version : (relative : Bool) → ends_in (codes "px") word ≡ false → length_in relative below_zero word ≡ Some length → is_measured relative word ≡ false
  by_version true t e = relative_not below_zero word length (sym (rest t) ∙ e) where
    rest : ends_in (codes "px") word ≡ false → length_in true below_zero word ≡ relative_of below_zero word
    rest t = rw t refl
  by_version false t e = zero_not false word length (sym (rest t) ∙ e) where
    rest : ends_in (codes "px") word ≡ false → length_in false below_zero word ≡ zero_of word
    rest t = rw t refl

  by_test : (b : Bool) → ends_in (codes "px") word ≡ b → is_measured relative word ≡ false
  by_test true t = ends_so (λ x. bytes_eq x (codes "px")) relative word t px_other
  by_test false t = by_version relative t e

percent_other : (b : Bool) → list_all (is_other (ends_in (codes "%"))) (units b) ≡ true
percent_other true = refl
percent_other false = refl

fr_other : (b : Bool) → list_all (is_other (λ w. bytes_eq w (codes "fr"))) (units b) ≡ true
fr_other true = refl
fr_other false = refl

pub argument_not : (relative below_zero : Bool) (word : Word) (b : Side) → length_or_percentage relative below_zero word ≡ Some b → is_measured relative word ≡ false
argument_not relative below_zero word b e = by_test (ends_in (codes "%") word) refl where
  by_test : (t : Bool) → ends_in (codes "%") word ≡ t → is_measured relative word ≡ false
  by_test true t = ends_so (ends_in (codes "%")) relative word (percent_end word t) percent_other
  by_test false t = mapped length_side (length_in relative below_zero word) b (is_measured relative word ≡ false)
      (ap (λ (t : Bool). if t then option_map side.Percent (percentage_of word) else option_map length_side (length_in relative below_zero word)) (sym t) ∙ e)
      (length_not relative below_zero word)

keyword : (relative : Bool) (word due : Word) → ((b : Bool) → is_measured b due ≡ false) → (bytes_eq word due ≡ false → is_measured relative word ≡ false) → is_measured relative word ≡ false
keyword relative word due d more = by_test (bytes_eq word due) refl where
  by_test : (b : Bool) → bytes_eq word due ≡ b → is_measured relative word ≡ false
  by_test true t = ap (is_measured relative) ((bytes_eq-Decides word due).0 t) ∙ d relative
  by_test false t = more t

auto_not : (b : Bool) → is_measured b (codes "auto") ≡ false
auto_not true = refl
auto_not false = refl

min_not : (b : Bool) → is_measured b (codes "min-content") ≡ false
min_not true = refl
min_not false = refl

max_not : (b : Bool) → is_measured b (codes "max-content") ≡ false
max_not true = refl
max_not false = refl

pub breadth_not : (relative : Bool) (word : Word) (b : Side) → breadth_of relative word ≡ Some b → is_measured relative word ≡ false
breadth_not relative word b e =
    keyword relative word (codes "auto") auto_not (λ a.
    keyword relative word (codes "min-content") min_not (λ n.
    keyword relative word (codes "max-content") max_not (λ x. by_flex a n x (ends_in (codes "fr") word) refl))) where
      by_flex : bytes_eq word (codes "auto") ≡ false → bytes_eq word (codes "min-content") ≡ false → bytes_eq word (codes "max-content") ≡ false → (t : Bool) → ends_in (codes "fr") word ≡ t → is_measured relative word ≡ false
      by_flex a n x true t = ends_so (λ w. bytes_eq w (codes "fr")) relative word t fr_other
      by_flex a n x false t = argument_not relative false word b (sym (rest a n x t) ∙ e) where
        rest : bytes_eq word (codes "auto") ≡ false → bytes_eq word (codes "min-content") ≡ false → bytes_eq word (codes "max-content") ≡ false → ends_in (codes "fr") word ≡ false → breadth_of relative word ≡ length_or_percentage relative false word
        rest a n x t = rw (a, n, x, t) refl

-- ---- words that are measured in none of these units

no_number : (text : Word) → begins_number text ≡ false → is_number text ≡ false
no_number [] h = refl
no_number (byte ∷ bytes) h = by_number (number_of (byte ∷ bytes)) refl where
  by_number : (o : Option Decimal) → number_of (byte ∷ bytes) ≡ o → not (is_none o) ≡ false
  by_number None e = refl
  by_number (Some d) e = elim (true≢false (sym (and_parts (in_number byte) (list_all in_number bytes) (number_in (byte ∷ bytes) d e)).0 ∙ h)) [ ]

begins_front : (word : Word) (n : ℕ) → begins_number word ≡ false → begins_number (take n word) ≡ false
begins_front [] zero h = refl
begins_front [] (suc n) h = refl
begins_front (byte ∷ bytes) zero h = refl
begins_front (byte ∷ bytes) (suc n) h = h

and_none : (a b : Bool) → b ≡ false → (a && b) ≡ false
and_none true b h = h
and_none false b h = refl

none_measured : (word : Word) (units : List Word) → begins_number word ≡ false → list_any (has_unit word) units ≡ false
none_measured word [] h = refl
none_measured word (unit ∷ units) h =
    ap (λ (b : Bool). b || list_any (has_unit word) units) (and_none (ends_in unit word) (is_number (before unit word)) (no_number (before unit word) (begins_front word (length word - length unit) h)))
    ∙ none_measured word units h

-- a word that begins as no number
pub unbegun : (relative : Bool) (word : Word) → begins_number word ≡ false → false ≡ is_measured relative word
unbegun relative word h = sym (none_measured word (units relative) h)

-- a word that ends in `px`
pub ended_px : (relative : Bool) (word : Word) → ends_in (codes "px") word ≡ true → false ≡ is_measured relative word
ended_px relative word h = sym (ends_so (λ x. bytes_eq x (codes "px")) relative word h px_other)

pub ruleset unmeasured = (unbegun, ended_px)
