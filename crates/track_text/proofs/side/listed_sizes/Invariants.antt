use Rattle.std.proofs.Common.{◌≡◌, ◌++◌, drop}
use Rattle.runs.specs.Times.{items_of}
use Rattle.track_text.specs.Sides.{sizes_of}
use Rattle.track_text.proofs.side.listed_sizes.Given as goal

-- the sizes so far, before those of the parts that are left, are all
abbrev pub invariant-loop-count : goal.invariant-loop-count
invariant-loop-count l = l.sizes ++ sizes_of (items_of (drop l.count-index l.count-items)) ≡ sizes_of l.tracks
