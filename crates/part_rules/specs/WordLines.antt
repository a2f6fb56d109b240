-- The sizes of a leaf: a fixed box, or words that are filled into lines (own rule).
use Rattle.std.specs.Prelude.{◌≡◌, refl, ℕ, ◌-◌, ◌≤◌, Bool, true, ℤ, pos, ◌+ℤ◌, ◌*ℤ◌, int_le, List, [], ◌∷◌, length}
use Rattle.std.specs.Int.{int_max}
use Rattle.std.specs.List.{list_all}
use Rattle.lunit.specs.Units.{clamp}
use Rattle.part_rules.specs.declared.content.Content.{Content}
use Rattle.part_rules.specs.declared.content.Content.TheVariants.{Fixed, Words}
use Rattle.part_rules.specs.Lists.{sum_of, filled, joined}

-- the greatest of some lengths and 0
abbrev pub greatest : List ℤ → ℤ
greatest [] = pos 0
greatest (w ∷ ws) = int_max w (greatest ws)

-- the width of a line: its words and a space between each two
abbrev pub line_width : ℤ → List ℤ → ℤ
line_width space line = sum_of line +ℤ space *ℤ pos (length line - 1)

-- The narrowest width (own rule): that of the greatest word.
abbrev pub narrowest : Content → ℤ
narrowest (Fixed width height) = width
narrowest (Words line space words) = clamp (greatest words)

-- The widest width (own rule): all words on one line.
abbrev pub widest : Content → ℤ
widest (Fixed width height) = width
widest (Words line space words) = clamp (line_width space words)

-- The lines at a width (own rule), filled greedily: a word joins the line where the line with it is at most the width. The
-- first word of a line stands on it also where it alone is wider (it could also have begun with an empty line).
abbrev pub word_lines : ℤ → ℤ → List ℤ → List (List ℤ)
word_lines space width = filled (λ line. int_le (line_width space line) width)

-- The number of lines at a width (own rule). A fixed box has none, and no words make no line.
abbrev pub line_count : Content → ℤ → ℕ
line_count (Fixed box_width height) width = 0
line_count (Words line space words) width = length (word_lines space width words)

-- The height at a width (own rule).
abbrev pub height_at : Content → ℤ → ℤ
height_at (Fixed box_width height) width = height
height_at (Words line space words) width = clamp (pos (length (word_lines space width words)) *ℤ line)

-- ---- the fewest lines

-- a way of cutting words into lines, each of which fits the width
pub record IsCut (space width : ℤ) (words : List ℤ) (lines : List (List ℤ)) : Type 0 where
  pub whole : joined lines ≡ words
  pub fit : list_all (λ line. int_le (line_width space line) width) lines ≡ true

-- no way of cutting the words into lines that fit has fewer lines
abbrev pub AreFewest : ℤ → ℤ → List ℤ → ℕ → Type 0
AreFewest space width words n = (lines : List (List ℤ)) → IsCut space width words lines → n ≤ length lines

-- no word is narrower than nothing
abbrev pub are_widths : List ℤ → Bool
are_widths words = list_all (int_le (pos 0)) words

-- ---- worked rows, in units

-- Two words of 3840 with a space of 256 are 7936 wide on one line, so at 5120 there are two lines of 1280.
two_lines : height_at (Words (pos 1280) (pos 256) (pos 3840 ∷ pos 3840 ∷ [])) (pos 5120) ≡ pos 2560
unfolding clamp
two_lines = refl

two_lines_narrowest : narrowest (Words (pos 1280) (pos 256) (pos 3840 ∷ pos 3840 ∷ [])) ≡ pos 3840
unfolding clamp
two_lines_narrowest = refl

two_lines_widest : widest (Words (pos 1280) (pos 256) (pos 3840 ∷ pos 3840 ∷ [])) ≡ pos 7936
unfolding clamp
two_lines_widest = refl

-- 10 + 5 + 20 = 35: one line at 35, two at 34.
just_fits : word_lines (pos 5) (pos 35) (pos 10 ∷ pos 20 ∷ []) ≡ (pos 10 ∷ pos 20 ∷ []) ∷ []
just_fits = refl

just_not : word_lines (pos 5) (pos 34) (pos 10 ∷ pos 20 ∷ []) ≡ (pos 10 ∷ []) ∷ (pos 20 ∷ []) ∷ []
just_not = refl

-- 40 + 5 + 40 = 85 is at most 100, and 130 is not.
three_words : word_lines (pos 5) (pos 100) (pos 40 ∷ pos 40 ∷ pos 40 ∷ []) ≡ (pos 40 ∷ pos 40 ∷ []) ∷ (pos 40 ∷ []) ∷ []
three_words = refl

-- A word that is wider than the line stands on a line of its own, with no empty line before it or after it.
wide_word : word_lines (pos 1) (pos 10) (pos 50 ∷ pos 5 ∷ []) ≡ (pos 50 ∷ []) ∷ (pos 5 ∷ []) ∷ []
wide_word = refl

wide_word_later : word_lines (pos 1) (pos 10) (pos 5 ∷ pos 50 ∷ []) ≡ (pos 5 ∷ []) ∷ (pos 50 ∷ []) ∷ []
wide_word_later = refl

-- Words of no width, without spaces, all stand on one line of no width.
no_width : line_count (Words (pos 7) (pos 0) (pos 0 ∷ pos 0 ∷ pos 0 ∷ [])) (pos 0) ≡ 1
no_width = refl

-- No words: no line, no width, no height.
no_words : line_count (Words (pos 7) (pos 3) []) (pos 100) ≡ 0
no_words = refl

no_words_wide : widest (Words (pos 7) (pos 3) []) ≡ pos 0
unfolding clamp
no_words_wide = refl

no_words_high : height_at (Words (pos 7) (pos 3) []) (pos 100) ≡ pos 0
unfolding clamp
no_words_high = refl

fixed_box : height_at (Fixed (pos 40) (pos 20)) (pos 3) ≡ pos 20
fixed_box = refl

-- Two lines of 2^30 - 1 units are limited to 2^30.
limited_height : height_at (Words (pos 1073741823) (pos 0) (pos 4 ∷ pos 4 ∷ [])) (pos 7) ≡ pos 1073741824
unfolding clamp
limited_height = refl
