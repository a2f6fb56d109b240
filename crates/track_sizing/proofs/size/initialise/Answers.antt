use Rattle.std.proofs.Common.{arith, ap, ◌∙◌}
use Rattle.std.proofs.lemmas.Int.{ints}
use Rattle.part_rules.specs.Tracks.{initial}
use Rattle.track_sizing.proofs.Initial.{more_started}
use Rattle.track_sizing.proofs.size.initialise.Goals as goal

pub loop-rule-preserved : goal.loop-rule-preserved
loop-rule-preserved c =
    more_started c.args.first c.loop-rule.at c.add-at.result c.args.rules.now c.loop-rule.rule-index c.loop-rule.rows.items c.push.new.self.items c.rule-item.result c.initial.result c.loop-rule.invariant (omega arith) c.rule-item.is
    (c.initial.ensures ∙ ap (initial c.loop-rule.at) c.counted_rule.ensures.value) c.in_ok-push.ensures.items (omega (arith, ints))
