use Rattle.std.proofs.Common.{subst, sym, List}
use Rattle.part_rules.specs.Tracks.{Track, raise_limit}
use Rattle.track_sizing.specs.Placed.{AreSet}
use Rattle.track_sizing.proofs.Groups.{set_map, limit_keeps}
use Rattle.track_sizing.proofs.distribute.raise_limits_to_bases.Goals as goal

pub returns-clause-set : goal.returns-clause-set
returns-clause-set c = subst (λ (ts : List Track). AreSet c.args.first ts) (sym c.raise_each_limit.ensures) (set_map raise_limit c.args.first c.args.rows.now limit_keeps c.requires)
