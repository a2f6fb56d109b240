-- The text that is written: boxes, refusals and hits.
use Rattle.std.specs.Prelude.{ℕ, ℤ, Bool, if◌then◌else◌, List, [], ◌∷◌, ◌++◌, ◌^◌, ◌≤◌, unsigned_abs, Option, Some, None, codes, decimal}
use Rattle.lunit.specs.declared.geometry.Rect.{Rect}
use Rattle.lunit.specs.Printed.{printed}
use Rattle.text_scan.specs.declared.line.Place.{Place}

-- a name and its box
abbrev pub Box : Type 0
Box = List ℕ × Rect

-- a number of units, in px
unfoldable pub px_of : ℤ → List ℕ
px_of units = printed units

-- a space and a number of px
unfoldable pub spaced : ℤ → List ℕ
spaced units = 32 ∷ px_of units

-- two numbers of px
unfoldable pub spaced_pair : ℤ → ℤ → List ℕ
spaced_pair first second = spaced first ++ spaced second

-- a box's line: `name x y width height` (own rule)
unfoldable pub box_line : Box → List ℕ
box_line box = box.0 ++ spaced_pair box.1.x box.1.y ++ spaced_pair box.1.width box.1.height ++ 10 ∷ []

abbrev pub box_lines : List Box → List ℕ
box_lines [] = []
box_lines (box ∷ boxes) = box_line box ++ box_lines boxes

-- the first line of a layout: `layout k`, where k is 0 for the document (own rule)
abbrev pub layout_line : ℕ → List ℕ
layout_line k = codes "layout " ++ decimal k ++ 10 ∷ []

-- a layout with its number: its first line, then a line for each box in order
abbrev pub print : ℕ → List Box → List ℕ
print k boxes = layout_line k ++ box_lines boxes

-- the line of a refusal: `refused k L:C name`, with the place in the input and the name of the fault (own rule)
abbrev pub refusal : ℕ → Place → List ℕ → List ℕ
refusal k place name = codes "refused " ++ decimal k ++ 32 ∷ decimal place.line ++ 58 ∷ decimal place.column ++ 32 ∷ name ++ 10 ∷ []

-- the name of a box, or `-`, which is no name
abbrev pub name_or_none : Option (List ℕ) → List ℕ
name_or_none None = 45 ∷ []
name_or_none (Some name) = name

-- the line of a hit: `hit k NAME` with the name of the box under the point, or `hit k -` (own rule)
abbrev pub hit_line : ℕ → Option (List ℕ) → List ℕ
hit_line k found = codes "hit " ++ decimal k ++ 32 ∷ name_or_none found ++ 10 ∷ []

-- the line of the counts of a layout: `stats M A`, how often leaves were measured and how many answers were kept (own rule)
unfoldable pub stats_line : ℕ → ℕ → List ℕ
stats_line measured added = codes "stats " ++ decimal measured ++ 32 ∷ decimal added ++ 10 ∷ []

-- this line, where it is wanted
abbrev pub counts : Bool → ℕ → ℕ → List ℕ
counts stats measured added = if stats then stats_line measured added else []

-- a number of units that can be printed
abbrev pub IsPrintable : ℤ → Type 0
IsPrintable units = unsigned_abs units ≤ 2 ^ 56

-- each number of the rectangle can be printed
pub record IsPrintableRect (rect : Rect) : Type 0 where
  pub x : IsPrintable rect.x
  pub y : IsPrintable rect.y
  pub width : IsPrintable rect.width
  pub height : IsPrintable rect.height

abbrev pub IsPrintableBox : Box → Type 0
IsPrintableBox box = IsPrintableRect box.1
