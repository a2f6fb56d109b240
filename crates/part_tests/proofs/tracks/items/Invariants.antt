use Rattle.std.proofs.Common.{negsuc}
use Rattle.track_sizing.specs.Placed.{AreIn}
use Rattle.part_tests.proofs.tracks.items.Given as goal

abbrev pub invariant-loop-row : goal.invariant-loop-row
invariant-loop-row l = AreIn (negsuc 1) l.count l.all.items
