-- The answers of a node to all that is asked of it (own rule: the form in which sizes are told).
use Rattle.std.specs.Prelude.{ℕ, ℤ, List}
use Rattle.lunit.specs.declared.geometry.Rect.{Rect}
use Rattle.lunit.specs.declared.item.Item.{Item}
use Rattle.tree_rules.specs.declared.query.Given.{Given}
use Rattle.tree_rules.specs.Chains.{Link}
use Rattle.tree_rules.specs.Labels.{Label}

-- The counts of the automatic repetitions of a grid, columns first.
abbrev pub Pair : Type 0
Pair = ℕ × ℕ

-- A child as its parent lays it out: its border box, from the parent's border box, and what it is given in each axis.
pub record Frame : Type 0 where
  pub rect : Rect
  pub inline : Given
  pub block : Given

-- The border box of a node, from the origin of the viewport.
abbrev pub Box : Type 0
Box = List ℕ × Rect

-- What is known of a node once it is given an inline size, or the columns that it spans.
pub record Down : Type 0 where
  -- the block size of its content
  pub block : ℤ
  -- the items that it lends to the grid that sizes its rows
  pub lend_rows : List Item
  -- its children, in document order, once it is given a block size or the rows that it spans
  pub frames : Given → List Frame
  -- the boxes below it, in document order, once it is given a block size and has its border box at a position
  pub boxes : Given → ℤ × ℤ → List Box

-- The answers of a node, each by the counts of the repetitions of the grids that it sees above it, the topmost first.
pub record Answers : Type 0 where
  -- the two intrinsic inline sizes of its content: the min-content size and the max-content size
  pub inline : List Pair → ℤ × ℤ
  -- the items that it lends to the grid that sizes its columns
  pub lend_columns : List Pair → List Item
  pub down : List Pair → Given → Down

-- A child as its parent sees it.
pub record Kid : Type 0 where
  pub label : Label
  pub chain : List Link
  pub answers : Answers
