-- A flex container once the items of its lines are known.
use Rattle.std.specs.Prelude.{ℕ, ℤ, pos, ◌≤ℤ◌, Bool, false, List, [], ◌∷◌, map, Option, Some, None}
use Rattle.lunit.specs.Units.{IsUnits}
use Rattle.part_rules.specs.declared.flex.FlexItem.{FlexItem}
use Rattle.part_rules.specs.FlexLines.{line_crosses, outer_hypothetical}
use Rattle.tree_rules.specs.FlexSizes as rules
use Rattle.tree_rules.specs.Labels.{Label}
use Rattle.tree_rules.specs.NodeSizes.{stretches}
use Rattle.tree_rules.specs.Repetitions.{gap_by}
use Rattle.placing.specs.declared.lined.Lines.{Lines}

-- the lines of the definitions
abbrev pub lines_of : Lines → rules.Lines
lines_of l = record { ranges = l.ranges; mains = l.mains }

-- the lines of a row of this width
abbrev pub row_lines_by : Label → ℤ → List FlexItem → rules.Lines
row_lines_by x width items = rules.lines_by x width (gap_by (Some width) (pos 0) x.grid.columns.gap) items

-- The cross sizes of the lines, by the hypothetical cross sizes of the children with their margins.
abbrev pub crosses_by : Bool → Label → List ℤ → List (ℕ × ℕ) → Option ℤ → List ℤ
crosses_by column x outers ranges cross =
    line_crosses outers ranges cross (gap_by cross (pos 0) (rules.cross_grid column x).gap) x.content.wrap
    (stretches x.content.block.distribution.mode)

-- the block size of a row, by the same
abbrev pub row_block_by : Label → List ℤ → List (ℕ × ℕ) → ℤ
row_block_by x outers ranges = rules.in_a_row (gap_by None (pos 0) x.grid.rows.gap) (crosses_by false x outers ranges None)

-- the block size of a column, by its items
abbrev pub column_block_by : Label → List FlexItem → ℤ
column_block_by x items = rules.in_a_row (gap_by None (pos 0) x.grid.rows.gap) (map outer_hypothetical items)

-- each item has borders and paddings in the range of lengths
abbrev pub HaveInner : List FlexItem → Type 0
HaveInner [] = Unit {0}
HaveInner (i ∷ items) = IsUnits i.inner × HaveInner items

-- there is a size for each item, which is at least its borders and paddings
abbrev pub AreCovering : List FlexItem → List ℤ → Type 0
AreCovering [] [] = Unit {0}
AreCovering [] (s ∷ sizes) = ⊥
AreCovering (i ∷ items) [] = ⊥
AreCovering (i ∷ items) (s ∷ sizes) = (i.inner ≤ℤ s) × AreCovering items sizes
