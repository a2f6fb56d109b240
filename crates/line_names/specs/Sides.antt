-- What line values stand for, as the code has it.
use Rattle.std.specs.Prelude.{nat_le, Bool, true, length}
use Rattle.std.specs.Option.{option_copied}
use Rattle.lunit.specs.declared.line_value.LineValue.{LineValue}
use Rattle.lunit.specs.declared.line_value.LineValue.TheVariants.{Auto, Line, Reach, Named}
use Rattle.part_rules.specs.LineNames as rules
use Rattle.line_names.specs.Counting.{IsFar}
use Rattle.line_names.specs.declared.side.Side.{Side}
use Rattle.line_names.specs.declared.side.Side.TheVariants.{At, Spanning, Open}

-- a bare name is short enough for the names of an area's edges
abbrev pub has_edges : LineValue → Bool
has_edges Auto = true
has_edges (Line number name) = true
has_edges (Reach count name) = true
has_edges (Named name) = nat_le (length name) 58

-- the side of the definitions
abbrev pub seen : Side → rules.Side
seen (At line) = rules.line line
seen (Spanning count name) = rules.spanning count (option_copied name)
seen Open = rules.open_side

-- a line that a side stands for is not past all numbers
abbrev pub IsReachable : Side → Type 0
IsReachable (At line) = IsFar line
IsReachable (Spanning count name) = Unit {0}
IsReachable Open = Unit {0}
