-- How far from the first line an area may lie, so that all numbers of lines fit.
use Rattle.std.specs.Prelude.{ℤ, int_le, Bool, ◌&&◌, List, IsTrue}
use Rattle.std.specs.List.{list_all}
use Rattle.lunit.specs.declared.geometry.Area.{Area}

-- the area ends at this line or before, in both axes
abbrev pub ends_by : ℤ → Area → Bool
ends_by line a = int_le a.columns.end line && int_le a.rows.end line

-- each of these areas ends at this line or before
pub record AllEndBy (line : ℤ) (areas : List Area) : Type 0 where
  pub each : IsTrue (list_all (ends_by line) areas)
