-- Boxes with names that differ.
use Rattle.std.specs.Prelude.{◌≡◌, ◌<◌, ◌^◌, List, [], ◌∷◌, length, None, ⊤}
use Rattle.std.specs.List.{All}
use Rattle.session.specs.Printing.{Box, IsPrintableBox}
use Rattle.open_document.specs.Changed.{rect_in}

abbrev pub AreApart : List Box → Type 0
AreApart [] = ⊤
AreApart (box ∷ boxes) = (rect_in boxes box.0 ≡ None) × AreApart boxes

-- what holds of the boxes of a document: their names differ, their numbers can be printed, and they
-- are so few that they can be counted
pub record AreBoxes (boxes : List Box) : Type 0 where
  pub apart : AreApart boxes
  pub printable : All IsPrintableBox boxes
  pub few : length boxes < 2 ^ 32
