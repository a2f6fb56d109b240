-- Line values (CSS Grid 2, 8.3), and two or four of them with `/` between (8.4).
use Rattle.std.specs.Prelude.{ℕ, ℤ, pos, negsuc, ◌==◌, Bool, true, List, [], ◌∷◌, if◌then◌else◌, Option, Some, None, codes}
use Rattle.std.specs.Option.{option_map}
use Rattle.std.specs.Str.{bytes_eq}
use Rattle.lunit.specs.declared.line_value.LineValue.{LineValue}
use Rattle.lunit.specs.declared.line_value.LineValue.TheVariants as line
use Rattle.track_text.specs.Words.{Word, bind}
use Rattle.track_text.specs.Values.{integer_of}
use Rattle.track_text.specs.NameSets.{is_line_name}
use Rattle.value_text.specs.Sizes.{if_ended}

unfoldable pub name_of : Word → Option Word
name_of word = if is_line_name word then Some word else None

-- the number of a line: an integer other than 0
abbrev pub not_zero : ℤ → Option ℤ
not_zero (pos n) = if n == 0 then None else Some (pos n)
not_zero (negsuc n) = Some (negsuc n)

unfoldable pub line_number : Word → Option ℤ
line_number word = bind (integer_of word) not_zero

-- how many tracks or lines are spanned: an integer of at least 1
abbrev pub at_least_one : ℤ → Option ℕ
at_least_one (pos n) = if n == 0 then None else Some n
at_least_one (negsuc n) = None

unfoldable pub span_count : Word → Option ℕ
span_count word = bind (integer_of word) at_least_one

-- a word alone: `auto`, the number of a line, or a name
abbrev pub named_line : Word → Option LineValue
named_line word = option_map line.Named (name_of word)

abbrev pub or_named : Option ℤ → Word → Option LineValue
or_named (Some n) word = Some (line.Line n None)
or_named None word = named_line word

abbrev pub one_word : Word → Option LineValue
one_word word = if bytes_eq word (codes "auto") then Some line.Auto else or_named (line_number word) word

-- the number of a line and a name, in either order
abbrev pub line_with : ℤ → Word → Option LineValue
line_with n word = option_map (λ name. line.Line n (Some name)) (name_of word)

abbrev pub name_and_number : Word → Word → Option LineValue
name_and_number a b = bind (line_number b) (λ n. line_with n a)

abbrev pub with_number : Option ℤ → Word → Word → Option LineValue
with_number (Some n) a b = line_with n b
with_number None a b = name_and_number a b

-- after `span`: a count or a name
abbrev pub named_reach : Word → Option LineValue
named_reach word = option_map (λ name. line.Reach 1 (Some name)) (name_of word)

abbrev pub one_spanned : Option ℕ → Word → Option LineValue
one_spanned (Some n) word = Some (line.Reach n None)
one_spanned None word = named_reach word

abbrev pub two_words : Word → Word → Option LineValue
two_words a b = if bytes_eq a (codes "span") then one_spanned (span_count b) b else with_number (line_number a) a b

-- after `span`: a count and a name, in either order
abbrev pub reach_with : ℕ → Word → Option LineValue
reach_with n word = option_map (λ name. line.Reach n (Some name)) (name_of word)

abbrev pub name_and_count : Word → Word → Option LineValue
name_and_count a b = bind (span_count b) (λ n. reach_with n a)

abbrev pub two_spanned : Option ℕ → Word → Word → Option LineValue
two_spanned (Some n) a b = reach_with n b
two_spanned None a b = name_and_count a b

abbrev pub three_words : Word → Word → Word → Option LineValue
three_words a b c = if bytes_eq a (codes "span") then two_spanned (span_count b) b c else None

-- a line value ends before `/`, or where no words are left
abbrev pub stops : List Word → Bool
stops [] = true
stops (word ∷ words) = bytes_eq word (codes "/")

abbrev pub beside : {A : Type 0} → List Word → Option A → Option (A × List Word)
beside words read = option_map (λ x. (x, words)) read

abbrev pub after_two : Word → Word → List Word → Option (LineValue × List Word)
after_two a b [] = None
after_two a b (c ∷ words) = beside words (three_words a b c)

abbrev pub after_one : Word → List Word → Option (LineValue × List Word)
after_one a [] = None
after_one a (b ∷ words) = if stops words then beside words (two_words a b) else after_two a b words

-- the line value that words begin with, and the words after it
abbrev pub line_first : List Word → Option (LineValue × List Word)
line_first [] = None
line_first (a ∷ words) = if stops words then beside words (one_word a) else after_one a words

-- a line value alone
abbrev pub one_line : List Word → Option LineValue
one_line words = bind (line_first words) (λ read. if_ended read.1 read.0)

-- what a missing line value is by the one that it follows: the same where that is a bare name, else `auto`
abbrev pub follow : LineValue → LineValue
follow (line.Named name) = line.Named name
follow line.Auto = line.Auto
follow (line.Line n name) = line.Auto
follow (line.Reach n name) = line.Auto

-- after `/` a line value, or this where no words are left
abbrev pub line_or : LineValue → List Word → Option (LineValue × List Word)
line_or default [] = Some (default, [])
line_or default (word ∷ words) = if bytes_eq word (codes "/") then line_first words else None

-- one line value or two: the start and the end
abbrev pub end_after : LineValue → List Word → Option (LineValue × LineValue)
end_after first words = bind (line_or (follow first) words) (λ second. if_ended second.1 (first, second.0))

abbrev pub two_lines : List Word → Option (LineValue × LineValue)
two_lines words = bind (line_first words) (λ first. end_after first.0 first.1)

-- one line value to four: the row start, the column start, the row end and the column end. A missing column start
-- follows the row start, and a missing end its start
abbrev pub FourLines : Type 0
FourLines = LineValue × LineValue × LineValue × LineValue

abbrev pub column_end_after : LineValue → LineValue → LineValue → List Word → Option FourLines
column_end_after row column row_end words = bind (line_or (follow column) words) (λ read. if_ended read.1 (row, column, row_end, read.0))

abbrev pub row_end_after : LineValue → LineValue → List Word → Option FourLines
row_end_after row column words = bind (line_or (follow row) words) (λ read. column_end_after row column read.0 read.1)

abbrev pub column_after : LineValue → List Word → Option FourLines
column_after row words = bind (line_or (follow row) words) (λ read. row_end_after row read.0 read.1)

abbrev pub four_lines : List Word → Option FourLines
four_lines words = bind (line_first words) (λ read. column_after read.0 read.1)
