-- What the code's words say is what the definitions say.
use Rattle.std.proofs.Common.{ap, ◌≡◌, refl, ℕ, ℤ, pos, Bool, true, false, List, [], ◌∷◌, map, Option, None, Some, if◌then◌else◌}
use Rattle.part_rules.specs.declared.view.View.{View}
use Rattle.part_rules.specs.FlexLines.{outer_hypothetical}
use Rattle.tree_rules.specs.FlexSizes as rules
use Rattle.tree_rules.specs.Frames.{Extent, row_extent}
use Rattle.tree_rules.specs.GridSizes.{Entry, Grid, Wide, child_inline, from_first, shares_columns, shares_rows}
use Rattle.tree_rules.specs.Labels.{Label}
use Rattle.tree_rules.specs.Repetitions.{gap_by}
use Rattle.block_sizes.specs.Children.{block_of_child, inline_of_child, size_and_given}
use Rattle.block_sizes.specs.Flexes.{column_block_by, crosses_by, row_block_by, row_lines_by}

-- ---- children of grids

pub inline_is_defined : (g : Grid) (columns : View 0) (e : Entry) (sizes : ℤ × ℤ)
    → child_inline g columns e sizes ≡ inline_of_child g.label.content.inline.items columns (from_first g.placed.columns e.area.columns) e.kid.label (shares_columns e.kid) sizes
inline_is_defined g columns e sizes = refl

one_choice : (shares : Bool) (own shared : Extent) → size_and_given (if shares then shared else own) ≡ (if shares then size_and_given shared else size_and_given own)
one_choice true own shared = refl
one_choice false own shared = refl

pub block_is_defined : (g : Grid) (rows : View 1) (w : Wide)
    → size_and_given (row_extent g rows w) ≡ block_of_child g.label.content.block.items rows (from_first g.placed.rows w.entry.area.rows) w.entry.kid.label (shares_rows w.entry.kid) w.down.block
block_is_defined g rows w = one_choice (shares_rows w.entry.kid) _ _

-- ---- flex containers

pub row_lines_are_defined : (f : rules.Flex) (width : ℤ) → rules.row_lines f width ≡ row_lines_by f.label width (map (λ (m : rules.Member). rules.flex_item false (Some width) m.kid.label m.inline) f.members)
row_lines_are_defined f width = refl

pub crosses_are_defined : (column : Bool) (x : Label) (settled : List rules.Settled) (ranges : List (ℕ × ℕ)) (cross : Option ℤ)
    → rules.crosses_of column x settled ranges cross ≡ crosses_by column x (map (rules.outer_cross column cross) settled) ranges cross
crosses_are_defined column x settled ranges cross = refl

pub row_block_is_defined : (f : rules.Flex) (lines : rules.Lines) (settled : List rules.Settled) → rules.row_block f lines settled ≡ row_block_by f.label (map (rules.outer_cross false None) settled) lines.ranges
row_block_is_defined f lines settled = refl

map_map : {A B C : Type 0} (f : A → B) (g : B → C) (xs : List A) → map (λ x. g (f x)) xs ≡ map g (map f xs)
map_map f g [] = refl
map_map f g (x ∷ xs) = ap (λ ys. g (f x) ∷ ys) (map_map f g xs)

pub column_block_is_defined : (f : rules.Flex) (settled : List rules.Settled) → rules.column_block f settled ≡ column_block_by f.label (map (rules.column_item None) settled)
column_block_is_defined f settled = ap (rules.in_a_row (gap_by None (pos 0) f.label.grid.rows.gap)) (map_map (rules.column_item None) outer_hypothetical settled)

pub ruleset same_laws = (inline_is_defined, block_is_defined, row_lines_are_defined, crosses_are_defined, row_block_is_defined, column_block_is_defined)
