-- The blocks tell what the areas take.
use Rattle.std.specs.Prelude.{◌≡◌, ℤ, ◌≤ℤ◌, true, false}
use Rattle.cell_index.specs.Held.{held_in}
use Rattle.cell_index.specs.Passed.{last_line}
use Rattle.cell_index.specs.Taken.{any_holds}
use Rattle.cell_index.specs.declared.intervals.IntervalCells.TheInside.{Inside}

-- Where the blocks are whole, they hold the cells of the areas and no others. No cell lies behind the last line.
pub record AreTold (cells : Inside) : Type 0 where
  pub told : cells.whole ≡ true → (row column : ℤ) → held_in cells.blocks row column ≡ any_holds cells.areas.items row column
  pub right : (row column : ℤ) → last_line ≤ℤ column → any_holds cells.areas.items row column ≡ false
  pub below : (row column : ℤ) → last_line ≤ℤ row → any_holds cells.areas.items row column ≡ false
