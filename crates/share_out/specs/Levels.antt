-- Rows that are filled to one level, and some first ones to the next.
use Rattle.std.specs.Prelude.{ℕ, suc, List, ◌++◌, map, take, drop}
use Rattle.part_rules.specs.declared.share.Share.{Share}
use Rattle.part_rules.specs.Sharing.{filled_to}

-- The rows before the place `higher` filled to one unit more than the level, and the others to the level.
abbrev pub filled_rows : ℕ → ℕ → List Share → List Share
filled_rows level higher rows = map (filled_to (suc level)) (take higher rows) ++ map (filled_to level) (drop higher rows)
