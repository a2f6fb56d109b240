-- Rows of placement, worked by hand: columns and rows by their lines. They hold by computation.
use Rattle.std.specs.Prelude.{◌≡◌, refl, ℕ, ℤ, pos, negsuc, Bool, true, false, [], ◌∷◌}
use Rattle.lunit.specs.declared.geometry.Area.{Area}
use Rattle.lunit.specs.declared.geometry.Spot.{Spot}
use Rattle.lunit.specs.declared.geometry.Spot.TheVariants.{At, Free}
use Rattle.part_rules.specs.declared.wish.Wish.{Wish}
use Rattle.part_rules.specs.declared.wish.Shape.{Shape}
use Rattle.part_rules.specs.Placement.{placed, placed_by_rows}

abbrev lines : ℤ → ℤ → Spot
lines start end = At (record { start = start; end = end })

abbrev wish : Spot → Spot → Wish
wish column row = record { column = column; row = row }

abbrev cells : ℤ → ℤ → ℤ → ℤ → Area
cells a b c d = record { columns = record { start = a; end = b }; rows = record { start = c; end = d } }

abbrev shape : ℕ → Bool → Bool → ℕ → Shape
shape columns column_flow dense rows = record { columns = columns; column_flow = column_flow; dense = dense; rows = rows }

-- In flow `column` rows take the part of columns. They reach from -2 by the item to the explicit end 0, so the cursor begins at row -2 and at
-- the first column. The item's row is not before the cursor's, so it stays in that column.
row_before_the_explicit_grid : placed (wish (Free 1) (lines (negsuc 1) (negsuc 0)) ∷ []) (shape 4 true false 0) ≡
    cells (pos 0) (pos 1) (negsuc 1) (negsuc 0) ∷ []
unfolding placed_by_rows
row_before_the_explicit_grid = refl

-- Items with a definite row come first: the second item in the columns 0 to 4, and the third, whose rows start at another line and which so
-- searches from 0 too, in 4 to 6. The columns are then -2 to 6, and the cursor begins at column -2 and row 0. The first item has column 0, which
-- is free for three rows from row 3 on. The fourth follows it in row 3, and the fifth has its column in the same row. The sixth goes back to
-- column 1, so it searches from row 4 on and finds row 6. The seventh to the ninth follow it in row 6, and the last goes back, so row 7.
cursor_after_each_kind : placed
    (wish (lines (pos 0) (pos 1)) (Free 3) ∷ wish (Free 4) (lines (pos 1) (pos 3)) ∷ wish (Free 2) (lines (pos 2) (pos 3)) ∷
    wish (Free 2) (Free 3) ∷ wish (lines (pos 3) (pos 5)) (Free 1) ∷ wish (lines (pos 1) (pos 2)) (Free 1) ∷ wish (Free 1) (Free 6) ∷
    wish (Free 2) (Free 1) ∷ wish (Free 1) (Free 1) ∷ wish (lines (negsuc 1) (pos 0)) (Free 3) ∷ []) (shape 2 false false 1) ≡
    cells (pos 0) (pos 1) (pos 3) (pos 6) ∷ cells (pos 0) (pos 4) (pos 1) (pos 3) ∷ cells (pos 4) (pos 6) (pos 2) (pos 3) ∷
    cells (pos 1) (pos 3) (pos 3) (pos 6) ∷ cells (pos 3) (pos 5) (pos 3) (pos 4) ∷ cells (pos 1) (pos 2) (pos 6) (pos 7) ∷
    cells (pos 2) (pos 3) (pos 6) (pos 12) ∷ cells (pos 3) (pos 5) (pos 6) (pos 7) ∷ cells (pos 5) (pos 6) (pos 6) (pos 7) ∷
    cells (negsuc 1) (pos 0) (pos 7) (pos 10) ∷ []
unfolding placed_by_rows
cursor_after_each_kind = refl

-- The columns are -2 to 5 by the definite ones, wide enough for the first item, which fills -2 to 4 of row 0. The second does not fit beside it, and
-- has -2 to 0 from row 1 on. Column 4 is free in row 0. The columns -2 to 1 are free from row 7 on, below the second item. Each of the last
-- two searches from the first column of row 0 again: 0 to 1 and 1 to 2 from row 1 on.
dense_from_the_first_column : placed
    (wish (Free 6) (Free 1) ∷ wish (Free 2) (Free 6) ∷ wish (lines (pos 4) (pos 5)) (Free 1) ∷ wish (lines (negsuc 1) (pos 1)) (Free 1) ∷
    wish (Free 1) (Free 3) ∷ wish (Free 1) (Free 2) ∷ []) (shape 2 false true 1) ≡
    cells (negsuc 1) (pos 4) (pos 0) (pos 1) ∷ cells (negsuc 1) (pos 0) (pos 1) (pos 7) ∷ cells (pos 4) (pos 5) (pos 0) (pos 1) ∷
    cells (negsuc 1) (pos 1) (pos 7) (pos 8) ∷ cells (pos 0) (pos 1) (pos 1) (pos 4) ∷ cells (pos 1) (pos 2) (pos 1) (pos 3) ∷ []
unfolding placed_by_rows
dense_from_the_first_column = refl

-- In flow `column` an item with a definite column searches its rows, in dense mode each from row 0: 0 to 2; beside it 0 to 1; below the first 2 to 3;
-- and 0 to 1 again, though the item before it, which starts with the same column, ends at 3.
dense_in_definite_columns : placed
    (wish (lines (pos 2) (pos 4)) (Free 2) ∷ wish (lines (pos 4) (pos 5)) (Free 1) ∷ wish (lines (pos 0) (pos 4)) (Free 1) ∷
    wish (lines (pos 0) (pos 1)) (Free 1) ∷ []) (shape 2 true true 3) ≡
    cells (pos 2) (pos 4) (pos 0) (pos 2) ∷ cells (pos 4) (pos 5) (pos 0) (pos 1) ∷ cells (pos 0) (pos 4) (pos 2) (pos 3) ∷
    cells (pos 0) (pos 1) (pos 0) (pos 1) ∷ []
unfolding placed_by_rows
dense_in_definite_columns = refl

-- In sparse mode an item with a definite row begins after those that start in the same row. The second starts in another row and finds column 1
-- free. The third begins after the first, finds column 1 taken in row 1, and has 2 to 5. The fourth begins after both, though column 1 is free.
sparse_after_the_same_start : placed
    (wish (Free 1) (lines (pos 0) (pos 3)) ∷ wish (Free 1) (lines (pos 1) (pos 2)) ∷ wish (Free 3) (lines (pos 0) (pos 3)) ∷
    wish (Free 1) (lines (pos 0) (pos 1)) ∷ []) (shape 1 false false 0) ≡
    cells (pos 0) (pos 1) (pos 0) (pos 3) ∷ cells (pos 1) (pos 2) (pos 1) (pos 2) ∷ cells (pos 2) (pos 5) (pos 0) (pos 3) ∷
    cells (pos 5) (pos 6) (pos 0) (pos 1) ∷ []
unfolding placed_by_rows
sparse_after_the_same_start = refl
