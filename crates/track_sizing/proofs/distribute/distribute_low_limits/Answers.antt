use Rattle.std.proofs.Common.{subst, sym, List}
use Rattle.part_rules.specs.Tracks.{Track}
use Rattle.track_sizing.specs.Placed.{marked_limit_by}
use Rattle.track_sizing.specs.declared.kinds.Affected.{Affected}
use Rattle.track_sizing.specs.declared.kinds.Kind.TheVariants as kind
use Rattle.track_sizing.specs.Kinds.{affected_of}
use Rattle.track_sizing.specs.Placed.{AreSet}
use Rattle.track_sizing.proofs.Groups.{set_map}
use Rattle.track_sizing.proofs.Limits.{marked_keeps}
use Rattle.track_sizing.proofs.distribute.distribute_low_limits.Goals as goal

pub returns-clause-set : goal.returns-clause-set
returns-clause-set c =
    let a : Affected = record { kind = kind.IntrinsicMost; crossing = c.args.crossing } in
    subst (λ (ts : List Track). AreSet c.args.first ts) (sym c.raise_marked_limits.ensures) (set_map (marked_limit_by (affected_of a) c.args.items.now) c.args.first c.plan_limits.new.rows (marked_keeps (affected_of a) c.args.items.now) c.plan_limits.ensures.set)
