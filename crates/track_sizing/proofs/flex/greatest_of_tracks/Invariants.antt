use Rattle.std.proofs.Common.{◌-◌, length}
use Rattle.part_rules.specs.Tracks.{base_fraction, flexible}
use Rattle.track_sizing.proofs.Best.{IsBest}
use Rattle.track_sizing.proofs.flex.greatest_of_tracks.Given as goal

abbrev pub invariant-loop-back : goal.invariant-loop-back
invariant-loop-back l = IsBest flexible base_fraction l.start l.rows (length l.rows - l.back) l.best
