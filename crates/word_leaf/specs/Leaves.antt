-- What the sizes of a leaf ask of its content, and what is said of its lines.
use Rattle.std.specs.Prelude.{◌≡◌, ℕ, ◌≤◌, true, ℤ, pos, ◌≤ℤ◌, List, length}
use Rattle.part_rules.specs.declared.content.Content.{Content}
use Rattle.part_rules.specs.declared.content.Content.TheVariants.{Fixed, Words}
use Rattle.part_rules.specs.WordLines.{AreFewest, are_widths}

-- a box without a side below zero (own rule)
pub record IsBox (width height : ℤ) : Type 0 where
  pub some_width : pos 0 ≤ℤ width
  pub some_height : pos 0 ≤ℤ height

-- at most 65,536 words, and neither they nor their space nor their line height below zero (own rule)
pub record AreFillable (line space : ℤ) (words : List ℤ) : Type 0 where
  pub some_line : pos 0 ≤ℤ line
  pub some_space : pos 0 ≤ℤ space
  pub widths : are_widths words ≡ true
  pub few : length words ≤ 65536

-- the contents that have sizes (own rule)
abbrev pub IsMeasurable : Content → Type 0
IsMeasurable (Fixed width height) = IsBox width height
IsMeasurable (Words line space words) = AreFillable line space words

-- No way of cutting the words of a leaf into lines that fit the width has fewer lines.
abbrev pub HasFewestLines : Content → ℤ → ℕ → Type 0
HasFewestLines (Fixed box_width height) width n = Unit {0}
HasFewestLines (Words line space words) width n = AreFewest space width words n
