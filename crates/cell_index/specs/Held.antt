-- Cells that are taken in a run, a block and bands of rows.
use Rattle.std.specs.Prelude.{◌≡◌, ℤ, ◌≤ℤ◌, ◌<ℤ◌, Bool, true, ◌||◌}
use Rattle.lunit.specs.declared.geometry.Area.{Area}
use Rattle.cell_index.specs.Taken.{held, holds}
use Rattle.cell_index.specs.declared.blocks.Blocks.{Blocks}

-- the cell is taken
abbrev pub held_in : Blocks → ℤ → ℤ → Bool
held_in blocks row column = (held blocks.bands row column || holds blocks.block row column) || holds blocks.run row column

-- a cell of the area is taken
pub record HasTaken (blocks : Blocks) (area : Area) : Type 0 where
  pub row : ℤ
  pub column : ℤ
  pub first_row : area.rows.start ≤ℤ row
  pub last_row : row <ℤ area.rows.end
  pub first_column : area.columns.start ≤ℤ column
  pub last_column : column <ℤ area.columns.end
  pub is : held_in blocks row column ≡ true
