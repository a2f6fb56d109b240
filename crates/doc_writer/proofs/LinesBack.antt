-- Line values as they are written, read again.
use Rattle.std.proofs.Common.{◌≡◌, ℕ, ℤ, pos, negsuc, ◌≤◌, Bool, true, false, ◌==◌, unsigned_abs, List, [], ◌∷◌, refl, ap, ◌∙◌, arith, if◌then◌else◌, Option, Some, None, codes}
use Rattle.std.specs.Prelude.{⊤}
use Rattle.std.specs.List.{list_any}
use Rattle.std.specs.Option.{option_map}
use Rattle.std.specs.Str.{bytes_eq}
use Rattle.std.proofs.Math.Nat.{div-le_self}
use Rattle.lunit.specs.declared.line_value.LineValue.{LineValue}
use Rattle.lunit.specs.declared.line_value.LineValue.TheVariants as line
use Rattle.lunit.specs.Decimals.{is_point, read_allowed, read_number}
use Rattle.lunit.specs.Forms.{integers}
use Rattle.track_text.specs.Words.{Word, bind, ended}
use Rattle.track_text.specs.Values.{integer_of}
use Rattle.track_text.specs.NameSets.{is_line_name}
use Rattle.value_text.specs.declared.form.Refused.TheVariants as refused
use Rattle.value_text.specs.Refusals.{holds_refused}
use Rattle.value_text.specs.Sizes.{if_ended}
use Rattle.value_text.specs.Lines.{name_of, not_zero, line_number, at_least_one, span_count, named_line, or_named, one_word, line_with, with_number, one_spanned, two_words, reach_with, two_spanned, three_words, stops, beside, after_two, after_one, line_first, one_line, follow, line_or, end_after, two_lines, column_end_after, row_end_after, column_after, four_lines}
use Rattle.doc_writer.specs.Numbers.{integer}
use Rattle.doc_writer.specs.Values.{name_words, line_words}
use Rattle.doc_writer.proofs.LengthsBack.{integer_back, integer_numeral}
use Rattle.doc_writer.proofs.Told.{Every, every_map, every_bind, every_if, every_so, integer_told}
use Rattle.doc_writer.proofs.QuietBack.{starts, number_starts, starts_not, name_is_no_number, name_not, numeral_not_measured, numeral_no_percent, quiet_word, quiet_number, quiet_name}

-- ---- which line values a text tells

abbrev pub IsNamed : Option Word → Type 0
IsNamed None = ⊤
IsNamed (Some name) = is_line_name name ≡ true

abbrev pub IsLine : LineValue → Type 0
IsLine line.Auto = ⊤
IsLine (line.Line n name) = ((not_zero n ≡ Some n) × (unsigned_abs n ≤ 1000000)) × IsNamed name
IsLine (line.Reach n name) = ((at_least_one (pos n) ≡ Some n) × (n ≤ 1000000)) × IsNamed name
IsLine (line.Named name) = is_line_name name ≡ true

name_told : (word : Word) → Every (λ name. is_line_name name ≡ true) (name_of word)
unfolding name_of
name_told word = every_if (λ name. is_line_name name ≡ true) (is_line_name word) (Some word) None (λ e. e) (λ e. tt)

abbrev IsLineNumber : ℤ → Type 0
IsLineNumber n = (not_zero n ≡ Some n) × (unsigned_abs n ≤ 1000000)

number_kept : (z : ℤ) → unsigned_abs z ≤ 1000000 → Every IsLineNumber (not_zero z)
number_kept (negsuc n) h = (refl, h)
number_kept (pos n) h = every_if IsLineNumber (n == 0) None (Some (pos n)) (λ e. tt) (λ e. (ap (λ (b : Bool). if b then None else Some (pos n)) e, h))

number_told : (word : Word) → Every IsLineNumber (line_number word)
unfolding line_number
number_told word = every_bind IsLineNumber (λ z. unsigned_abs z ≤ 1000000) not_zero (integer_of word) (integer_told word) number_kept

abbrev IsCount : ℕ → Type 0
IsCount n = (at_least_one (pos n) ≡ Some n) × (n ≤ 1000000)

count_kept : (z : ℤ) → unsigned_abs z ≤ 1000000 → Every IsCount (at_least_one z)
count_kept (negsuc n) h = tt
count_kept (pos n) h = every_if IsCount (n == 0) None (Some n) (λ e. tt) (λ e. (ap (λ (b : Bool). if b then None else Some n) e, h))

count_told : (word : Word) → Every IsCount (span_count word)
unfolding span_count
count_told word = every_bind IsCount (λ z. unsigned_abs z ≤ 1000000) at_least_one (integer_of word) (integer_told word) count_kept

named_told : (word : Word) → Every IsLine (named_line word)
named_told word = every_map IsLine line.Named (name_of word) (name_told word)

or_named_told : (o : Option ℤ) (word : Word) → Every IsLineNumber o → Every IsLine (or_named o word)
or_named_told None word h = named_told word
or_named_told (Some n) word h = (h, tt)

one_told : (word : Word) → Every IsLine (one_word word)
one_told word = every_if IsLine (bytes_eq word (codes "auto")) (Some line.Auto) (or_named (line_number word) word) (λ e. tt) (λ e. or_named_told (line_number word) word (number_told word))

with_told : (n : ℤ) (word : Word) → IsLineNumber n → Every IsLine (line_with n word)
with_told n word h = every_map IsLine (λ name. line.Line n (Some name)) (name_of word) (every_so (λ name. is_line_name name ≡ true) (λ name. IsLine (line.Line n (Some name))) (name_of word) (λ name k. (h, k)) (name_told word))

number_with_told : (o : Option ℤ) (a b : Word) → Every IsLineNumber o → Every IsLine (with_number o a b)
number_with_told (Some n) a b h = with_told n b h
number_with_told None a b h = every_bind IsLine IsLineNumber (λ n. line_with n a) (line_number b) (number_told b) (λ n k. with_told n a k)

reach_told : (n : ℕ) (word : Word) → IsCount n → Every IsLine (reach_with n word)
reach_told n word h = every_map IsLine (λ name. line.Reach n (Some name)) (name_of word) (every_so (λ name. is_line_name name ≡ true) (λ name. IsLine (line.Reach n (Some name))) (name_of word) (λ name k. (h, k)) (name_told word))

one_spanned_told : (o : Option ℕ) (word : Word) → Every IsCount o → Every IsLine (one_spanned o word)
one_spanned_told (Some n) word h = (h, tt)
one_spanned_told None word h = reach_told 1 word (refl, omega arith)

two_told : (a b : Word) → Every IsLine (two_words a b)
two_told a b = every_if IsLine (bytes_eq a (codes "span")) (one_spanned (span_count b) b) (with_number (line_number a) a b) (λ e. one_spanned_told (span_count b) b (count_told b)) (λ e. number_with_told (line_number a) a b (number_told a))

two_spanned_told : (o : Option ℕ) (a b : Word) → Every IsCount o → Every IsLine (two_spanned o a b)
two_spanned_told (Some n) a b h = reach_told n b h
two_spanned_told None a b h = every_bind IsLine IsCount (λ n. reach_with n a) (span_count b) (count_told b) (λ n k. reach_told n a k)

three_told : (a b c : Word) → Every IsLine (three_words a b c)
three_told a b c = every_if IsLine (bytes_eq a (codes "span")) (two_spanned (span_count b) b c) None (λ e. two_spanned_told (span_count b) b c (count_told b)) (λ e. tt)

abbrev IsRead : LineValue × List Word → Type 0
IsRead read = IsLine read.0

beside_told : (words : List Word) (o : Option LineValue) → Every IsLine o → Every IsRead (beside words o)
beside_told words o h = every_map IsRead (λ x. (x, words)) o h

after_two_told : (a b : Word) (words : List Word) → Every IsRead (after_two a b words)
after_two_told a b [] = tt
after_two_told a b (c ∷ words) = beside_told words (three_words a b c) (three_told a b c)

after_one_told : (a : Word) (words : List Word) → Every IsRead (after_one a words)
after_one_told a [] = tt
after_one_told a (b ∷ words) = every_if IsRead (stops words) (beside words (two_words a b)) (after_two a b words) (λ e. beside_told words (two_words a b) (two_told a b)) (λ e. after_two_told a b words)

first_told : (words : List Word) → Every IsRead (line_first words)
first_told [] = tt
first_told (a ∷ words) = every_if IsRead (stops words) (beside words (one_word a)) (after_one a words) (λ e. beside_told words (one_word a) (one_told a)) (λ e. after_one_told a words)

pub ended_told : {A : Type 0} (P : A → Type 0) (words : List Word) (x : A) → P x → Every P (if_ended words x)
ended_told P words x h = every_if P (ended words) (Some x) None (λ e. h) (λ e. tt)

pub line_told : (words : List Word) → Every IsLine (one_line words)
line_told words = every_bind IsLine IsRead (λ read. if_ended read.1 read.0) (line_first words) (first_told words) (λ read h. ended_told IsLine read.1 read.0 h)

follows : (l : LineValue) → IsLine l → IsLine (follow l)
follows line.Auto h = tt
follows (line.Line n name) h = tt
follows (line.Reach n name) h = tt
follows (line.Named name) h = h

or_told : (default : LineValue) (words : List Word) → IsLine default → Every IsRead (line_or default words)
or_told default [] h = h
or_told default (word ∷ words) h = every_if IsRead (bytes_eq word (codes "/")) (line_first words) None (λ e. first_told words) (λ e. tt)

abbrev pub AreTwo : LineValue × LineValue → Type 0
AreTwo two = IsLine two.0 × IsLine two.1

pub two_lines_told : (words : List Word) → Every AreTwo (two_lines words)
two_lines_told words = every_bind AreTwo IsRead (λ first. end_after first.0 first.1) (line_first words) (first_told words)
    (λ first h. every_bind AreTwo IsRead (λ second. if_ended second.1 (first.0, second.0)) (line_or (follow first.0) first.1) (or_told (follow first.0) first.1 (follows first.0 h))
    (λ second k. ended_told AreTwo second.1 (first.0, second.0) (h, k)))

abbrev pub AreFour : LineValue × LineValue × LineValue × LineValue → Type 0
AreFour four = (IsLine four.0 × IsLine four.1) × (IsLine four.2 × IsLine four.3)

end_four : (row column row_end : LineValue) (words : List Word) → IsLine row → IsLine column → IsLine row_end → Every AreFour (column_end_after row column row_end words)
end_four row column row_end words r c e =
    every_bind AreFour IsRead (λ read. if_ended read.1 (row, column, row_end, read.0)) (line_or (follow column) words) (or_told (follow column) words (follows column c))
    (λ read h. ended_told AreFour read.1 (row, column, row_end, read.0) ((r, c), (e, h)))

row_four : (row column : LineValue) (words : List Word) → IsLine row → IsLine column → Every AreFour (row_end_after row column words)
row_four row column words r c =
    every_bind AreFour IsRead (λ read. column_end_after row column read.0 read.1) (line_or (follow row) words) (or_told (follow row) words (follows row r))
    (λ read h. end_four row column read.0 read.1 r c h)

column_four : (row : LineValue) (words : List Word) → IsLine row → Every AreFour (column_after row words)
column_four row words r =
    every_bind AreFour IsRead (λ read. row_end_after row read.0 read.1) (line_or (follow row) words) (or_told (follow row) words (follows row r))
    (λ read h. row_four row read.0 read.1 r h)

pub four_lines_told : (words : List Word) → Every AreFour (four_lines words)
four_lines_told words = every_bind AreFour IsRead (λ read. column_after read.0 read.1) (line_first words) (first_told words) (λ read h. column_four read.0 read.1 h)

-- ---- read again

name_back : (name : Word) → is_line_name name ≡ true → name_of name ≡ Some name
unfolding name_of
name_back name h = ap (λ (b : Bool). if b then Some name else None) h

number_back : (n : ℤ) → IsLineNumber n → line_number (integer n) ≡ Some n
unfolding line_number
number_back n h = ap (λ (o : Option ℤ). bind o not_zero) (integer_back n h.1) ∙ h.0

count_back : (n : ℕ) → IsCount n → span_count (integer (pos n)) ≡ Some n
unfolding span_count
count_back n h = ap (λ (o : Option ℤ). bind o at_least_one) (integer_back (pos n) h.1) ∙ h.0

by_point : (b : Bool) (o : Option ℤ) → o ≡ None → (if b then None else o) ≡ None
by_point true o e = refl
by_point false o e = e

no_line_number : (name : Word) → is_line_name name ≡ true → line_number name ≡ None
unfolding line_number
no_line_number name h = ap (λ (o : Option ℤ). bind o not_zero) (by_point (list_any is_point name) (read_number integers name) (ap (read_allowed integers) (name_is_no_number name h)))

integer_starts : (n : ℤ) → unsigned_abs n ≤ 1000000 → starts (integer n) ≡ true
integer_starts n h = number_starts 1 n (omega (arith, h, div-le_self (unsigned_abs n) 1))

alone : (o : Option LineValue) (l : LineValue) → o ≡ Some l → bind (beside [] o) (λ read. if_ended read.1 read.0) ≡ Some l
alone o l e = ap (λ (o : Option LineValue). bind (beside [] o) (λ read. if_ended read.1 read.0)) e

abbrev ended_line : Option (LineValue × List Word) → Option LineValue
ended_line o = bind o (λ read. if_ended read.1 read.0)

pub line_back : (l : LineValue) → IsLine l → one_line (line_words l) ≡ Some l
line_back line.Auto h = refl
line_back (line.Named name) h =
    alone (one_word name) (line.Named name)
    (ap (λ (b : Bool). if b then Some line.Auto else or_named (line_number name) name) (name_not name (codes "auto") h refl)
    ∙ ap (λ (o : Option ℤ). or_named o name) (no_line_number name h)
    ∙ ap (option_map line.Named) (name_back name h))
line_back (line.Line n None) h =
    let a : Word = integer n in
    alone (one_word a) (line.Line n None)
    (ap (λ (b : Bool). if b then Some line.Auto else or_named (line_number a) a) (starts_not a (codes "auto") (integer_starts n h.0.1) refl)
    ∙ ap (λ (o : Option ℤ). or_named o a) (number_back n h.0))
line_back (line.Line n (Some name)) h =
    let a : Word = integer n in
    ap (λ (b : Bool). ended_line (if b then beside (name ∷ []) (one_word a) else after_one a (name ∷ []))) (name_not name (codes "/") h.1 refl)
    ∙ alone (two_words a name) (line.Line n (Some name))
    (ap (λ (b : Bool). if b then one_spanned (span_count name) name else with_number (line_number a) a name) (starts_not a (codes "span") (integer_starts n h.0.1) refl)
    ∙ ap (λ (o : Option ℤ). with_number o a name) (number_back n h.0)
    ∙ ap (option_map (λ (name : Word). line.Line n (Some name))) (name_back name h.1))
line_back (line.Reach n None) h =
    let a : Word = integer (pos n) in
    ap (λ (b : Bool). ended_line (if b then beside (a ∷ []) (one_word (codes "span")) else after_one (codes "span") (a ∷ []))) (starts_not a (codes "/") (integer_starts (pos n) h.0.1) refl)
    ∙ alone (two_words (codes "span") a) (line.Reach n None) (ap (λ (o : Option ℕ). one_spanned o a) (count_back n h.0))
line_back (line.Reach n (Some name)) h =
    let a : Word = integer (pos n) in
    ap (λ (b : Bool). ended_line (if b then beside (a ∷ name ∷ []) (one_word (codes "span")) else after_one (codes "span") (a ∷ name ∷ []))) (starts_not a (codes "/") (integer_starts (pos n) h.0.1) refl)
    ∙ ap (λ (b : Bool). ended_line (if b then beside (name ∷ []) (two_words (codes "span") a) else after_two (codes "span") a (name ∷ []))) (name_not name (codes "/") h.1 refl)
    ∙ alone (three_words (codes "span") a name) (line.Reach n (Some name))
    (ap (λ (o : Option ℕ). two_spanned o a name) (count_back n h.0) ∙ ap (option_map (λ (name : Word). line.Reach n (Some name))) (name_back name h.1))

-- ---- nothing is refused

quiet_integer : (relative : Bool) (n : ℤ) (rest : List Word) → unsigned_abs n ≤ 1000000 → holds_refused false relative refused.Nothing (integer n ∷ rest) ≡ holds_refused false relative refused.Nothing rest
quiet_integer relative n rest h =
    quiet_word relative refused.Nothing (integer n) rest (quiet_number relative refused.Nothing (integer n) rest (integer_starts n h) (numeral_not_measured relative (integer n) (integer_numeral n h)) (numeral_no_percent (integer n) (integer_numeral n h)))

quiet_names : (relative : Bool) (name : Option Word) → IsNamed name → holds_refused false relative refused.Nothing (name_words name) ≡ false
quiet_names relative None h = refl
quiet_names relative (Some name) h = quiet_word relative refused.Nothing name [] (quiet_name relative name [] h refl)

quiet_span : (relative : Bool) (rest : List Word) → holds_refused false relative refused.Nothing (codes "span" ∷ rest) ≡ holds_refused false relative refused.Nothing rest
quiet_span true rest = refl
quiet_span false rest = refl

quiet_auto : (relative : Bool) → holds_refused false relative refused.Nothing (codes "auto" ∷ []) ≡ false
quiet_auto true = refl
quiet_auto false = refl

pub line_quiet : (relative : Bool) (l : LineValue) → IsLine l → holds_refused false relative refused.Nothing (line_words l) ≡ false
line_quiet relative line.Auto h = quiet_auto relative
line_quiet relative (line.Named name) h = quiet_names relative (Some name) h
line_quiet relative (line.Line n name) h = quiet_integer relative n (name_words name) h.0.1 ∙ quiet_names relative name h.1
line_quiet relative (line.Reach n name) h = quiet_span relative (integer (pos n) ∷ name_words name) ∙ quiet_integer relative (pos n) (name_words name) h.0.1 ∙ quiet_names relative name h.1
