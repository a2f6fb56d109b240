-- A line value that words read as is in range.
use Rattle.std.proofs.Common.{◌≡◌, refl, sym, arith, true≢false, ℕ, zero, suc, ℤ, pos, negsuc, ◌==◌, Bool, true, false, ◌&&◌, not, List, [], ◌∷◌, length, Option, Some, None}
use Rattle.std.specs.Prelude.{IfSome, codes, nat_le}
use Rattle.std.specs.List.{list_all}
use Rattle.std.specs.Str.{bytes_eq}
use Rattle.std.proofs.lemmas.Bool.{leb-false}
use Rattle.lunit.specs.Names.{begins_name, continues_name, is_name}
use Rattle.lunit.specs.declared.line_value.LineValue.{LineValue}
use Rattle.lunit.specs.declared.line_value.LineValue.TheVariants as line
use Rattle.track_text.specs.Words.{Word}
use Rattle.track_text.specs.Values.{integer_of}
use Rattle.track_text.specs.NameSets.{is_line_name, is_reserved}
use Rattle.value_text.specs.Sizes.{if_ended}
use Rattle.value_text.specs.Lines.{name_of, line_number, at_least_one, span_count, named_line, or_named, one_word, line_with, with_number, one_spanned, two_words, reach_with, two_spanned, three_words, stops, beside, after_two, after_one, line_first, one_line, follow, line_or, end_after, two_lines, FourLines, column_end_after, row_end_after, column_after, four_lines}
use Rattle.placing.specs.Ranges.{IsLine}
use Rattle.page_tree.proofs.ToldOptions.{some_if, some_where, some_unless, some_map, some_bind, some_weaker, some_any, both_true}
use Rattle.page_tree.proofs.ToldSizes.{ended_in}

-- ---- names

abbrev pub IsShortName : Word → Type 0
IsShortName name = nat_le (length name) 58 ≡ true

name_short : (word : Word) → is_name word ≡ true → IsShortName word
name_short [] h = refl
name_short (byte ∷ bytes) h = by_tests (begins_name byte) (list_all continues_name bytes) (nat_le (length (byte ∷ bytes)) 58) h
  where
    by_tests : (a b c : Bool) → (a && b && c) ≡ true → c ≡ true
    by_tests true true c h = h
    by_tests true false c h = absurd (true≢false (sym h))
    by_tests false b c h = absurd (true≢false (sym h))

pub line_name_short : (word : Word) → is_line_name word ≡ true → IsShortName word
line_name_short word h = name_short word (both_true (is_name word) (not (is_reserved word)) h).0

name_in : (word : Word) → IfSome (name_of word) IsShortName
unfolding name_of
name_in word = some_where IsShortName (is_line_name word) (Some word) (line_name_short word)

-- ---- counts

abbrev IsCount : ℕ → Type 0
IsCount n = nat_le 1 n ≡ true

one_low : (n : ℕ) → (n == 0) ≡ false → IsCount n
one_low zero e = absurd (true≢false e)
one_low (suc n) e = by_test (nat_le 1 (suc n)) refl
  where
    by_test : (b : Bool) → nat_le 1 (suc n) ≡ b → b ≡ true
    by_test true e = refl
    by_test false e = absurd (let few = leb-false 1 (suc n) e in omega (arith, few))

count_in : (word : Word) → IfSome (span_count word) IsCount
unfolding span_count
count_in word = some_bind IsCount (integer_of word) at_least_one (some_any (λ z. IfSome (at_least_one z) IsCount) (integer_of word) by_sign)
  where
    by_sign : (z : ℤ) → IfSome (at_least_one z) IsCount
    by_sign (pos n) = some_unless IsCount (n == 0) (Some n) (one_low n)
    by_sign (negsuc n) = tt

-- ---- a line value

pub auto_line : IsLine line.Auto
auto_line = record { edges = refl; some = refl }

numbered_in : (n : ℤ) (o : Option Word) → IsLine (line.Line n o)
numbered_in n o = record { edges = refl; some = refl }

reach_in : (n : ℕ) (o : Option Word) → IsCount n → IsLine (line.Reach n o)
reach_in n o h = record { edges = refl; some = h }

named_in : (word : Word) → IfSome (named_line word) IsLine
named_in word =
    some_map IsLine line.Named (name_of word)
    (some_weaker IsShortName (λ name. IsLine (line.Named name)) (name_of word) (λ name h. record { edges = h; some = refl }) (name_in word))

one_in : (word : Word) → IfSome (one_word word) IsLine
one_in word = some_if IsLine (bytes_eq word (codes "auto")) (Some line.Auto) (or_named (line_number word) word) auto_line (by_number (line_number word))
  where
    by_number : (o : Option ℤ) → IfSome (or_named o word) IsLine
    by_number (Some n) = numbered_in n None
    by_number None = named_in word

with_in : (n : ℤ) (word : Word) → IfSome (line_with n word) IsLine
with_in n word = some_map IsLine (λ name. line.Line n (Some name)) (name_of word) (some_any (λ name. IsLine (line.Line n (Some name))) (name_of word) (λ name. numbered_in n (Some name)))

reach_with_in : (n : ℕ) (word : Word) → IsCount n → IfSome (reach_with n word) IsLine
reach_with_in n word h = some_map IsLine (λ name. line.Reach n (Some name)) (name_of word) (some_any (λ name. IsLine (line.Reach n (Some name))) (name_of word) (λ name. reach_in n (Some name) h))

two_in : (a b : Word) → IfSome (two_words a b) IsLine
two_in a b =
    some_if IsLine (bytes_eq a (codes "span")) (one_spanned (span_count b) b) (with_number (line_number a) a b) (by_count (span_count b) (count_in b)) (by_number (line_number a))
  where
    by_count : (o : Option ℕ) → IfSome o IsCount → IfSome (one_spanned o b) IsLine
    by_count (Some n) h = reach_in n None h
    by_count None h = reach_with_in 1 b refl

    by_number : (o : Option ℤ) → IfSome (with_number o a b) IsLine
    by_number (Some n) = with_in n b
    by_number None = some_bind IsLine (line_number b) (λ n. line_with n a) (some_any (λ n. IfSome (line_with n a) IsLine) (line_number b) (λ n. with_in n a))

three_in : (a b c : Word) → IfSome (three_words a b c) IsLine
three_in a b c = some_where IsLine (bytes_eq a (codes "span")) (two_spanned (span_count b) b c) (λ _. by_count (span_count b) (count_in b))
  where
    by_count : (o : Option ℕ) → IfSome o IsCount → IfSome (two_spanned o b c) IsLine
    by_count (Some n) h = reach_with_in n c h
    by_count None h = some_bind IsLine (span_count c) (λ n. reach_with n b) (some_weaker IsCount (λ n. IfSome (reach_with n b) IsLine) (span_count c) (λ n k. reach_with_in n b k) (count_in c))

-- ---- with the words after it

abbrev IsLineRead : LineValue × List Word → Type 0
IsLineRead read = IsLine read.0

beside_in : (words : List Word) (o : Option LineValue) → IfSome o IsLine → IfSome (beside words o) IsLineRead
beside_in words o h = some_map IsLineRead (λ x. (x, words)) o h

first_in : (words : List Word) → IfSome (line_first words) IsLineRead
first_in [] = tt
first_in (a ∷ words) = some_if IsLineRead (stops words) (beside words (one_word a)) (after_one a words) (beside_in words (one_word a) (one_in a)) (more words)
  where
    most : (b : Word) (words : List Word) → IfSome (after_two a b words) IsLineRead
    most b [] = tt
    most b (c ∷ words) = beside_in words (three_words a b c) (three_in a b c)

    more : (words : List Word) → IfSome (after_one a words) IsLineRead
    more [] = tt
    more (b ∷ words) = some_if IsLineRead (stops words) (beside words (two_words a b)) (after_two a b words) (beside_in words (two_words a b) (two_in a b)) (most b words)

pub line_read : (words : List Word) → IfSome (one_line words) IsLine
line_read words =
    some_bind IsLine (line_first words) (λ read. if_ended read.1 read.0)
    (some_weaker IsLineRead (λ read. IfSome (if_ended read.1 read.0) IsLine) (line_first words) (λ read h. ended_in IsLine read.1 read.0 h) (first_in words))

-- ---- two or four

follow_in : (l : LineValue) → IsLine l → IsLine (follow l)
follow_in (line.Named name) h = h
follow_in line.Auto h = auto_line
follow_in (line.Line n name) h = auto_line
follow_in (line.Reach n name) h = auto_line

or_in : (default : LineValue) (words : List Word) → IsLine default → IfSome (line_or default words) IsLineRead
or_in default [] h = h
or_in default (word ∷ words) h = some_where IsLineRead (bytes_eq word (codes "/")) (line_first words) (λ _. first_in words)

pub record AreTwoLines (read : LineValue × LineValue) : Type 0 where
  pub start : IsLine read.0
  pub end : IsLine read.1

end_in : (first : LineValue) (words : List Word) → IsLine first → IfSome (end_after first words) AreTwoLines
end_in first words h =
    some_bind AreTwoLines (line_or (follow first) words) (λ second. if_ended second.1 (first, second.0))
    (some_weaker IsLineRead (λ second. IfSome (if_ended second.1 (first, second.0)) AreTwoLines) (line_or (follow first) words)
    (λ second k. ended_in AreTwoLines second.1 (first, second.0) (record { start = h; end = k })) (or_in (follow first) words (follow_in first h)))

pub two_read : (words : List Word) → IfSome (two_lines words) AreTwoLines
two_read words =
    some_bind AreTwoLines (line_first words) (λ first. end_after first.0 first.1)
    (some_weaker IsLineRead (λ first. IfSome (end_after first.0 first.1) AreTwoLines) (line_first words) (λ first h. end_in first.0 first.1 h) (first_in words))

pub record AreFourLines (read : FourLines) : Type 0 where
  pub row : IsLine read.0
  pub column : IsLine read.1
  pub row_end : IsLine read.2
  pub column_end : IsLine read.3

column_end_in : (row column row_end : LineValue) (words : List Word) → IsLine row → IsLine column → IsLine row_end → IfSome (column_end_after row column row_end words) AreFourLines
column_end_in row column row_end words r c e =
    some_bind AreFourLines (line_or (follow column) words) (λ read. if_ended read.1 (row, column, row_end, read.0))
    (some_weaker IsLineRead (λ read. IfSome (if_ended read.1 (row, column, row_end, read.0)) AreFourLines) (line_or (follow column) words)
    (λ read k. ended_in AreFourLines read.1 (row, column, row_end, read.0) (record { row = r; column = c; row_end = e; column_end = k })) (or_in (follow column) words (follow_in column c)))

row_end_in : (row column : LineValue) (words : List Word) → IsLine row → IsLine column → IfSome (row_end_after row column words) AreFourLines
row_end_in row column words r c =
    some_bind AreFourLines (line_or (follow row) words) (λ read. column_end_after row column read.0 read.1)
    (some_weaker IsLineRead (λ read. IfSome (column_end_after row column read.0 read.1) AreFourLines) (line_or (follow row) words)
    (λ read k. column_end_in row column read.0 read.1 r c k) (or_in (follow row) words (follow_in row r)))

column_in : (row : LineValue) (words : List Word) → IsLine row → IfSome (column_after row words) AreFourLines
column_in row words r =
    some_bind AreFourLines (line_or (follow row) words) (λ read. row_end_after row read.0 read.1)
    (some_weaker IsLineRead (λ read. IfSome (row_end_after row read.0 read.1) AreFourLines) (line_or (follow row) words)
    (λ read k. row_end_in row read.0 read.1 r k) (or_in (follow row) words (follow_in row r)))

pub four_read : (words : List Word) → IfSome (four_lines words) AreFourLines
four_read words =
    some_bind AreFourLines (line_first words) (λ read. column_after read.0 read.1)
    (some_weaker IsLineRead (λ read. IfSome (column_after read.0 read.1) AreFourLines) (line_first words) (λ read h. column_in read.0 read.1 h) (first_in words))
