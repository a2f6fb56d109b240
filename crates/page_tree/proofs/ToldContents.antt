-- A content that a text tells can be measured.
use Rattle.std.proofs.Common.{◌≡◌, refl, subst, ℤ, pos, ◌≤ℤ◌, int_le, true, List, [], ◌∷◌, Option, Some}
use Rattle.std.specs.Prelude.{IfSome, codes}
use Rattle.lunit.specs.Decimals.{read_number}
use Rattle.lunit.specs.Forms.{sizes}
use Rattle.part_rules.specs.WordLines.{are_widths}
use Rattle.part_rules.specs.declared.content.Content.{Content}
use Rattle.part_rules.specs.declared.content.Content.TheVariants as content
use Rattle.track_text.specs.Values.{ends_in, before}
use Rattle.word_leaf.specs.Leaves.{IsMeasurable}
use Rattle.doc_text.specs.Texts.{Word}
use Rattle.doc_text.specs.Tokens.{size_of_word}
use Rattle.doc_text.specs.Valid.{IsTold, AreTold, IsToldContent}
use Rattle.page_tree.proofs.ToldOptions.{some_if, and_true}
use Rattle.page_tree.proofs.ToldNumbers.{IsNumber, number_read}
use Rattle.page_tree.proofs.ToldLengths.{test_low}

size_read : (word : Word) → IfSome (size_of_word word) (IsNumber sizes)
unfolding size_of_word
size_read word =
    some_if (IsNumber sizes) (ends_in (codes "px") word) (read_number sizes (before (codes "px") word)) (read_number sizes word)
    (number_read sizes (before (codes "px") word)) (number_read sizes word)

-- a size that a word reads as is at least 0
pub told_low : (size : ℤ) → IsTold size → pos 0 ≤ℤ size
told_low size h = (told_number h.word h.told).sign refl
  where
    told_number : (word : Word) → size_of_word word ≡ Some size → IsNumber sizes size
    told_number word e = subst (λ (o : Option ℤ). IfSome o (IsNumber sizes)) e (size_read word)

widths_told : (words : List ℤ) → AreTold words → are_widths words ≡ true
widths_told [] h = refl
widths_told (word ∷ words) h = and_true (int_le (pos 0) word) (are_widths words) (test_low word (told_low word h.0)) (widths_told words h.1)

pub content_measured : (c : Content) → IsToldContent c → IsMeasurable c
content_measured (content.Fixed width height) h = record { some_width = told_low width h.0; some_height = told_low height h.1 }
content_measured (content.Words line space words) h = record { some_line = told_low line h.0; some_space = told_low space h.1.0; widths = widths_told words h.1.1.0; few = h.1.1.1 }
