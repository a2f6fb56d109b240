use Rattle.track_sizing.specs.Fits.{HaveFixed}
use Rattle.part_tests.proofs.tracks.rules.Given as goal

abbrev pub invariant-loop-track : goal.invariant-loop-track
invariant-loop-track l = HaveFixed l.all.items
