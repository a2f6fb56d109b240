use Rattle.std.proofs.Common.{◌≡◌, drop}
use Rattle.cell_index.specs.Passed.{areas_passed}
use Rattle.cell_index.proofs.list.areas_passed.Given as goal

abbrev pub invariant-loop-area : goal.invariant-loop-area
invariant-loop-area l = areas_passed l.down l.across l.tracks (drop l.area-index l.areas) l.line ≡ areas_passed l.down l.across l.tracks l.areas l.start
