-- Lines that share the rest of a cross size.
use Rattle.std.specs.Prelude.{ℤ, pos, ◌+ℤ◌, List, map, None}
use Rattle.lunit.specs.Units.{clamp}
use Rattle.part_rules.specs.declared.share.Share.{Share}
use Rattle.part_rules.specs.Lists.{zipped}

-- a row without end for each line
abbrev pub open_rows : List ℤ → List Share
open_rows sizes = map (λ (size : ℤ). record { room = None; got = pos 0 }) sizes

-- lines with what rows have got
abbrev pub added : List ℤ → List Share → List ℤ
added sizes rows = zipped (λ size (row : Share). clamp (size +ℤ row.got)) sizes rows
