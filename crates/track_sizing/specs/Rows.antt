-- Tracks as the code keeps them.
use Rattle.std.specs.Prelude.{ℤ, pos, ◌≤ℤ◌, Option, Some, None}
use Rattle.part_rules.specs.Tracks.{Track}
use Rattle.track_sizing.specs.declared.row.Row.TheInside.{Inside}

-- no growth limit, or one of at least 0
abbrev pub IsLimit : Option ℤ → Type 0
IsLimit None = Unit {0}
IsLimit (Some x) = pos 0 ≤ℤ x

abbrev pub track_of : Inside → Track
track_of r = record { at = r.at; rule = r.rule; base = r.base; limit = r.limit; endless = r.endless; incurred = r.incurred; planned = r.planned }

abbrev pub row_of : Track → Inside
row_of t = record { at = t.at; rule = t.rule; base = t.base; limit = t.limit; endless = t.endless; incurred = t.incurred; planned = t.planned }

-- no length is below zero
abbrev pub IsRow : Inside → Type 0
IsRow r = record { base : pos 0 ≤ℤ r.base; limit : IsLimit r.limit; incurred : pos 0 ≤ℤ r.incurred; planned : pos 0 ≤ℤ r.planned }
