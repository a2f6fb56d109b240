use Rattle.std.proofs.Common.{arith}
use Rattle.std.specs.Prelude.{◌-ℤ◌}
use Rattle.std.proofs.lemmas.Int.{ints}
use Rattle.lunit.specs.Units.{top}
use Rattle.track_sizing.proofs.Given.{quiet_below}
use Rattle.track_sizing.proofs.factors.give_by_factors.Goals as goal

pub hand_out_to-left-requires-clause-below : goal.hand_out_to-left-requires-clause-below
hand_out_to-left-requires-clause-below c = quiet_below (top -ℤ c.args.space) c.args.rows.now c.requires.quiet (omega (arith, ints))
