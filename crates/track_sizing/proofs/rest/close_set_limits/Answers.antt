use Rattle.std.proofs.Common.{subst, sym, List}
use Rattle.part_rules.specs.Tracks.{Track}
use Rattle.track_sizing.specs.Placed.{AreSet}
use Rattle.track_sizing.proofs.Whole.{set_closed}
use Rattle.track_sizing.proofs.rest.close_set_limits.Goals as goal

pub returns-clause-set : goal.returns-clause-set
returns-clause-set c = subst (λ (ts : List Track). AreSet c.args.first ts) (sym c.close_limits.ensures) (set_closed c.args.first c.args.rows.now c.requires)
