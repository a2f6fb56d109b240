use Rattle.std.proofs.Common.{subst, sym, List}
use Rattle.part_rules.specs.Tracks.{Track, raised_base}
use Rattle.track_sizing.specs.Placed.{AreSet}
use Rattle.track_sizing.proofs.Groups.{set_map, base_keeps}
use Rattle.track_sizing.proofs.Once.{raised_after}
use Rattle.track_sizing.proofs.distribute.distribute_bases.Goals as goal

pub returns-clause-set : goal.returns-clause-set
returns-clause-set c = subst (λ (ts : List Track). AreSet c.args.first ts) (sym c.raise_bases.ensures) (set_map raised_base c.args.first c.plan_bases.new.rows base_keeps c.plan_bases.ensures.set)

pub returns-clause-raised : goal.returns-clause-raised
returns-clause-raised c = raised_after c.plan_bases.new.rows c.raise_bases.new.rows c.raise_bases.ensures
