use Rattle.std.proofs.Common.{subst, sym, List}
use Rattle.part_rules.specs.Tracks.{Track}
use Rattle.track_sizing.specs.Groups.{passed}
use Rattle.track_sizing.specs.Placed.{AreSet}
use Rattle.track_sizing.proofs.Groups.{set_map}
use Rattle.track_sizing.proofs.Passed.{passed_keeps}
use Rattle.track_sizing.proofs.group.pass_group.Goals as goal

pub returns-clause-set : goal.returns-clause-set
returns-clause-set c = subst (λ (ts : List Track). AreSet c.args.first ts) (sym c.pass_each.ensures) (set_map passed c.args.first c.args.rows.now passed_keeps c.requires)
