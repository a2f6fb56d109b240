use Rattle.std.proofs.Common.{◌≡◌, ◌++◌, [], drop}
use Rattle.runs.specs.Times.{items_of}
use Rattle.track_text.specs.Sides.{units_before}
use Rattle.track_text.proofs.templates.listed_units.Given as goal

-- the units so far, before those of the parts that are left, are all
abbrev pub invariant-loop-count : goal.invariant-loop-count
invariant-loop-count l = l.units ++ units_before (items_of (drop l.count-index l.count-items)) [] ≡ units_before l.tracks []
